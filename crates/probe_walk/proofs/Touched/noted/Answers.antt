-- The first i places are filled with what is noted at the marks.
use Prim.Native.Nat.{ℕ, ◌-◌, ◌≤◌, ◌<◌}
use native.Mathlib.Omega.{arith}
use mathlib.Core.Path.{◌≡◌, refl, ap, ◌∙◌}
use mathlib.Core.List.{List, map}
use lib.ListN.{length, get_or, set}
use Rattle.grid.specs.declared.Panel.{Panel}
use Rattle.grid.specs.declared.Cell.{Cell}
use Rattle.grid.specs.Panel.{OnPanel}
use Rattle.grid.specs.Bytes.{cell_of}
use Rattle.grid.proofs.Facts.{is_on}
use Rattle.list.specs.List.{nth}
use Rattle.list.proofs.Indexed.{on_index, among_index}
use Rattle.scratch.specs.Scratch.{place}
use Rattle.scratch.proofs.Places.{place_in}
use Rattle.probe_walk.specs.Search.{Marked}
use Rattle.probe_walk.proofs.Positions.{some_position}
use Rattle.probe_walk.proofs.Pairs.{below, pair_cell, pair_inside}
use Rattle.probe_walk.proofs.Sheets.{note, fill_next}
use Rattle.probe_walk.proofs.Walks.{is_mark, in_found}
use Rattle.probe_walk.proofs.Touched.noted.Goals as goal

-- the mark of the probe with the number i is not 0
some_mark : {p : Panel} {q : List Cell} {scratch : List ℕ} → Marked p q scratch → {i : ℕ} → i < length q → OnPanel p (nth q i)
    → {at : ℕ} → at ≡ place p (nth q i) → 1 ≤ get_or scratch at 0
some_mark {q = q} m {i} h o e = omega (arith, is_mark m o e, some_position (nth q i) q (among_index q i h))

pub place_of-requires-clause-on : goal.place_of-requires-clause-on
place_of-requires-clause-on c =
    let t = c.args.self.now in
    is_on (pair_inside t.probes.now refl c.loop-i.i c.loop-i-test.true c.from.ensures t.panel t.probed.on)

pub bounds-scratch-place_of : goal.bounds-scratch-place_of
bounds-scratch-place_of c =
    let t = c.args.self.now in
    place_in (pair_inside t.probes.now refl c.loop-i.i c.loop-i-test.true c.from.ensures t.panel t.probed.on) c.place_of.ensures c.requires.marks.room

pub overflow_sub-positions : goal.overflow_sub-positions
overflow_sub-positions c =
    let t = c.args.self.now in
    let i = c.loop-i.i in
    let more = below t.probes.now refl i c.loop-i-test.true c.from.ensures in
    let on = on_index t.panel (map cell_of t.probes.now) i t.probed.on more in
    some_mark c.requires.marks more on (c.place_of.ensures ∙ ap (place t.panel) (pair_cell t.probes.now refl i c.loop-i-test.true c.from.ensures))

pub bounds-found-mark : goal.bounds-found-mark
bounds-found-mark c =
    let t = c.args.self.now in
    let i = c.loop-i.i in
    let more = below t.probes.now refl i c.loop-i-test.true c.from.ensures in
    let on = on_index t.panel (map cell_of t.probes.now) i t.probed.on more in
    let at = c.place_of.ensures ∙ ap (place t.panel) (pair_cell t.probes.now refl i c.loop-i-test.true c.from.ensures) in
    let some = some_mark c.requires.marks more on at in
    in_found c.requires.marks on at (omega (arith, some)) t.probed.few c.requires.room

pub loop-i-preserved : goal.loop-i-preserved
loop-i-preserved c =
    let t = c.args.self.now in
    let i = c.loop-i.i in
    let q = map cell_of t.probes.now in
    let found = c.args.found.now in
    let more = below t.probes.now refl i c.loop-i-test.true c.from.ensures in
    let on = on_index t.panel q i t.probed.on more in
    let at = c.place_of.ensures ∙ ap (place t.panel) (pair_cell t.probes.now refl i c.loop-i-test.true c.from.ensures) in
    let mark = is_mark c.requires.marks on at in (
      omega (arith, more),
      ap (λ (k : List ℕ). set k i (get_or found (get_or c.args.scratch.now c.place_of.result 0 - 1) 0)) c.loop-i.invariant.1
          ∙ fill_next 0 (note q found) q i more t.probed.few (ap (λ (k : ℕ). get_or found (k - 1) 0) mark),
    )
