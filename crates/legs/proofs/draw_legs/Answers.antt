-- One leg after the other: the legs drawn so far, the next one, and the room for both.
use Prim.Native.Nat.{ℕ, ◌<◌}
use mathlib.Core.Path.{refl}
use mathlib.Core.List.{List, [], ◌∷◌, ◌++◌}
use native.Mathlib.Omega.{arith}
use lib.ListN.{length, take, get_or, length-take}
use Rattle.grid.specs.Panel.{cell}
use Rattle.plan.specs.declared.Leg.{Leg}
use Rattle.plan.specs.Leg.{forth}
use Rattle.plan.specs.Drawing.{Room}
use Rattle.grid.proofs.Lists.{take_next}
use Rattle.legs.proofs.Drawing.{room_next, start_fits, room_rest, sum_most, written_rest}
use Rattle.legs.proofs.draw_legs.Goals as goal

-- what stands for a leg where the slice has none
abbrev none : Leg
none = forth (cell 0 0) (cell 0 0) (cell 0 0)

-- a turn of the loop: the legs that are drawn, and the next one
module _ (l : List Leg) (i : ℕ) where
  abbrev drawn : List Leg
  drawn = take i l

  abbrev next : List Leg
  next = get_or l i none ∷ []

  both : {old : List ℕ} → i < length l → Room l old → Room (drawn ++ next) old
  both there room = room_next l none there room

pub slice_bounds-draw_leg-count : goal.slice_bounds-draw_leg-count
slice_bounds-draw_leg-count c =
    let l = c.args.legs.now in
    let i = c.loop-leg.leg-index in
    omega (arith, start_fits (drawn l i) (next l i) (both l i c.loop-leg-test.true c.requires.room) c.loop-leg.invariant)

pub slice_bounds-draw_leg-start : goal.slice_bounds-draw_leg-start
slice_bounds-draw_leg-start c = omega (arith, slice_bounds-draw_leg-count c)

pub draw_leg-k-requires : goal.draw_leg-k-requires
draw_leg-k-requires c =
    let l = c.args.legs.now in
    let i = c.loop-leg.leg-index in
    room_rest (drawn l i) (next l i) (both l i c.loop-leg-test.true c.requires.room) c.loop-leg.invariant (omega arith)

pub overflow_add-cells : goal.overflow_add-cells
overflow_add-cells c =
    let l = c.args.legs.now in
    let i = c.loop-leg.leg-index in
    let most = sum_most (drawn l i) (next l i) (both l i c.loop-leg-test.true c.requires.room) c.loop-leg.invariant c.draw_leg-k.ensures.count in
    record { fits = omega (arith, length-take i l) }

pub loop-leg-preserved : goal.loop-leg-preserved
loop-leg-preserved c =
    let l = c.args.legs.now in
    let i = c.loop-leg.leg-index in
    let w = written_rest (drawn l i) (next l i) (both l i c.loop-leg-test.true c.requires.room) c.loop-leg.invariant c.draw_leg-k.ensures refl in
    rw (take_next none l i c.loop-leg-test.true) w
