-- `Walking` holds at each turn, of the cells passed, which are those counted; and the marks stay.
use Prim.Native.Nat.{ℕ, ◌+◌, ◌-◌, ◌≤◌}
use native.Mathlib.Omega.{arith}
use mathlib.Core.Path.{◌≡◌, refl, sym, ap, ◌∙◌}
use mathlib.Core.Logic.{◌≢◌}
use mathlib.Core.List.{map}
use lib.ListN.{length, get_or, set}
use Rattle.grid.specs.Bytes.{cell_of, cells_in}
use Rattle.grid.proofs.Facts.{is_on}
use Rattle.list.specs.List.{nth}
use Rattle.list.proofs.Cells.{length_cells}
use Rattle.list.proofs.Indexed.{on_index, new_index}
use Rattle.scratch.specs.Scratch.{place}
use Rattle.scratch.proofs.Places.{place_in}
use Rattle.probe_walk.proofs.Positions.{is_not_on}
use Rattle.probe_walk.proofs.Pairs.{below, pair_cell, pair_inside}
use Rattle.probe_walk.proofs.Walks.{none_read, walking_same, is_mark, at_mark, in_found, passed_over, found_now, stopped_noted, stopped_read, ended_read}
use Rattle.probe_walk.proofs.Touched.find.Goals as goal
use Rattle.probe_walk.proofs.Touched.find.Goals.{then-mark-ne0, else-mark-ne0}

pub loop-pair-init : goal.loop-pair-init
loop-pair-init c = (none_read _ _ c.args.self.now.probed.few c.requires.empty c.mark-left.ensures.told, refl)

pub returns-then-left-eq0-clause-notes : goal.returns-then-left-eq0-clause-notes
returns-then-left-eq0-clause-notes c = stopped_noted c.loop-pair.invariant.0 (omega (arith, c.if-left-eq0.true))

pub returns-then-left-eq0-clause-told : goal.returns-then-left-eq0-clause-told
returns-then-left-eq0-clause-told c = c.loop-pair.invariant.1 ∙ stopped_read c.loop-pair.invariant.0 (omega (arith, c.if-left-eq0.true))

pub place_of-requires-clause-on : goal.place_of-requires-clause-on
place_of-requires-clause-on c =
    let b = c.pairs-pair-items in
    is_on (pair_inside b.result.now b.ensures.cells c.loop-pair.pair-index c.loop-pair-test.true c.from.ensures c.args.self.now.panel c.requires.inside)

pub bounds-scratch-place_of : goal.bounds-scratch-place_of
bounds-scratch-place_of c =
    let b = c.pairs-pair-items in
    place_in (pair_inside b.result.now b.ensures.cells c.loop-pair.pair-index c.loop-pair-test.true c.from.ensures c.args.self.now.panel c.requires.inside)
    c.place_of.ensures c.mark-left.ensures.marks.room

pub bounds-found-mark : goal.bounds-found-mark
bounds-found-mark c =
    let b = c.pairs-pair-items in
    let t = c.args.self.now in
    let w = c.loop-pair.invariant.0 in
    let on = pair_inside b.result.now b.ensures.cells c.loop-pair.pair-index c.loop-pair-test.true c.from.ensures t.panel c.requires.inside in
    in_found c.mark-left.ensures.marks on c.place_of.ensures c.if-mark-ne0.true t.probed.few (omega (arith, w.size))

pub loop-pair-preserved : goal.loop-pair-preserved
loop-pair-preserved c =
    let b = c.pairs-pair-items in
    let t = c.args.self.now in
    let w = c.loop-pair.invariant.0 in
    let counted = c.loop-pair.invariant.1 in
    let i = c.loop-pair.pair-index in
    let l = cells_in c.args.list.now in
    let q = map cell_of t.probes.now in
    let m = c.mark-left.ensures.marks in
    let here = pair_cell b.result.now b.ensures.cells i c.loop-pair-test.true c.from.ensures in
    let more = below b.result.now b.ensures.cells i c.loop-pair-test.true c.from.ensures in
    let on = on_index t.panel l i c.requires.inside more in
    let at = c.place_of.ensures ∙ ap (place t.panel) here in
    let some : c.loop-pair.left ≢ 0 = λ none. absurd (omega (arith, c.if-left-eq0.false)) in (
      elim c.if-mark-ne0.branch [
        | then-mark-ne0 v ↦
            let one : c.loop-pair.left - 1 + 1 ≡ c.loop-pair.left = omega (arith, some) in
            let room = in_found m on at v.if-mark-ne0.true t.probed.few (omega (arith, w.size)) in
            let noted = ap (λ (k : ℕ). set c.loop-pair.found (get_or c.mark-left.new.scratch c.place_of.result 0 - 1) (k + 1)) counted in
            walking_same (v.found-is ∙ noted) v.left-is
            (found_now w more (at_mark m on at v.if-mark-ne0.true) (new_index l i c.requires.once more) room _ one)
        | else-mark-ne0 v ↦
            walking_same v.found-is v.left-is
            (passed_over w more some (is_not_on (nth l i) q (sym (is_mark m on at) ∙ v.if-mark-ne0.false)))
      ],
      ap (λ (k : ℕ). k + 1) counted,
    )

pub returns-clause-told : goal.returns-clause-told
returns-clause-told c =
    let end : length (cells_in c.args.list.now) ≤ c.loop-pair.pair-index =
    omega (arith, c.loop-pair-test.false, length_cells c.args.list.now, c.pairs-pair-items.ensures.count) in
    c.loop-pair.invariant.1 ∙ ended_read c.loop-pair.invariant.0 end
