-- The first i places are filled: with the nearest cell where the position is 0, else as they were.
use native.Mathlib.Omega.{arith}
use borrow.Author.Tests.{eq-eqb, ne_eqb}
use mathlib.Core.Path.{◌≡◌, refl, ap, ◌∙◌}
use mathlib.Core.Logic.{◌≢◌}
use mathlib.Core.List.{List}
use lib.ListN.{length, get_or, set}
use Prim.Native.Nat.{ℕ, ◌≤◌}
use Rattle.grid.specs.declared.Cell.{Cell}
use Rattle.grid.specs.Panel.{cell}
use Rattle.grid.specs.Bytes.{cells_in}
use Rattle.grid.proofs.Tests.{cond_yes, cond_no}
use Rattle.list.specs.List.{nth}
use Rattle.list.proofs.Cells.{length_cells}
use Rattle.probe_walk.specs.Probes.{position, nearest, nearest_missed}
use Rattle.probe_walk.proofs.Pairs.{below, pair_cell, pair_bytes}
use Rattle.probe_walk.proofs.Sheets.{fill_next, fill_kept, placed_nth}
use Rattle.probe_walk.proofs.nearest_cells.Goals as goal
use Rattle.probe_walk.proofs.nearest_cells.Goals.{then-found-i-eq0, else-found-i-eq0}

pub nearest_to-requires-clause-fits : goal.nearest_to-requires-clause-fits
nearest_to-requires-clause-fits c =
    let b = c.pairs-pair-items in
    pair_bytes c.args.probes.now (λ i. (c.type_inv.probes i).fits) b.result.now b.ensures.cells c.loop-i.i c.loop-i-test.true c.from.ensures

pub loop-i-preserved : goal.loop-i-preserved
loop-i-preserved c =
    let i = c.loop-i.i in
    let b = c.pairs-pair-items.result.now in
    let e = c.pairs-pair-items.ensures.cells in
    let q = cells_in c.args.probes.now in
    let l = cells_in c.args.list.now in
    let more = below b e i c.loop-i-test.true refl in
    let few : length q ≤ 64 = omega (arith, c.requires.few, length_cells c.args.probes.now) in
    let at : get_or c.args.found i 0 ≡ position (nth q i) l =
    ap (λ (k : List ℕ). get_or k i 0) c.requires.found ∙ placed_nth 0 (λ c. position c l) q i 0 more in
    let filled = c.loop-i.invariant.1 in (
      omega (arith, more),
      elim c.if-found-i-eq0.branch [
        | then-found-i-eq0 w ↦
            let none : position (nth q i) l ≡ 0 = omega (arith, at, w.if-found-i-eq0.true) in
            let missed = cond_yes (nearest (nth q i) l) (cell 0 0) (eq-eqb _ _ none) refl in
            let near = w.nearest_to.ensures ∙ ap (λ (c : Cell). nearest c l) (pair_cell b e i c.loop-i-test.true w.from.ensures) in
            w.cells-is ∙ ap (λ (k : List Cell). set k i w.nearest_to.result) filled ∙ fill_next (cell 0 0) (nearest_missed l) q i more few (near ∙ missed)
        | else-found-i-eq0 w ↦
            let some : position (nth q i) l ≢ 0 = λ none. absurd (omega (arith, at, w.if-found-i-eq0.false)) in
            let found = cond_no (nearest (nth q i) l) (cell 0 0) (ne_eqb _ _ some) refl in
            w.cells-is ∙ filled ∙ fill_kept (cell 0 0) (nearest_missed l) q i more few found
      ],
    )
