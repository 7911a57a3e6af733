-- The next probe's cell is marked already, or is marked now.
use mathlib.Core.Path.{refl, ap, ◌∙◌}
use mathlib.Core.List.{map}
use Rattle.grid.specs.Bytes.{cell_of}
use Rattle.grid.proofs.Facts.{is_on}
use Rattle.scratch.specs.Scratch.{place}
use Rattle.scratch.proofs.Places.{place_in}
use Rattle.list.proofs.Indexed.{on_index}
use Rattle.probe_walk.proofs.Pairs.{below, pair_cell, pair_inside}
use Rattle.probe_walk.proofs.Marks.{marking_same, marked_before, marked_now}
use Rattle.probe_walk.proofs.Touched.mark.Goals as goal
use Rattle.probe_walk.proofs.Touched.mark.Goals.{then-scratch-place-eq0, else-scratch-place-eq0}

pub place_of-place-requires-clause-on : goal.place_of-place-requires-clause-on
place_of-place-requires-clause-on c =
    let t = c.args.self.now in
    is_on (pair_inside t.probes.now refl c.loop-i.i c.loop-i-test.true c.from.ensures t.panel t.probed.on)

pub bounds-scratch-place : goal.bounds-scratch-place
bounds-scratch-place c =
    let t = c.args.self.now in
    place_in (pair_inside t.probes.now refl c.loop-i.i c.loop-i-test.true c.from.ensures t.panel t.probed.on) c.place_of-place.ensures
    c.loop-i.invariant.marked.room

pub bounds-scratch-place-then-scratch-place-eq0 : goal.bounds-scratch-place-then-scratch-place-eq0
bounds-scratch-place-then-scratch-place-eq0 c =
    let t = c.args.self.now in
    place_in (pair_inside t.probes.now refl c.loop-i.i c.loop-i-test.true c.from.ensures t.panel t.probed.on) c.place_of-place.ensures
    c.loop-i.invariant.marked.room

pub loop-i-preserved : goal.loop-i-preserved
loop-i-preserved c =
    let t = c.args.self.now in
    let i = c.loop-i.i in
    let h = c.loop-i-test.true in
    let more = below t.probes.now refl i h c.from.ensures in
    let on = on_index t.panel (map cell_of t.probes.now) i t.probed.on more in
    let at = c.place_of-place.ensures ∙ ap (place t.panel) (pair_cell t.probes.now refl i h c.from.ensures) in
    elim c.if-scratch-place-eq0.branch [
      | then-scratch-place-eq0 w ↦ marking_same w.scratch-is w.different-is (marked_now c.loop-i.invariant more on at w.if-scratch-place-eq0.true)
      | else-scratch-place-eq0 w ↦ marking_same w.scratch-is w.different-is (marked_before c.loop-i.invariant more on at w.if-scratch-place-eq0.false)
    ]
