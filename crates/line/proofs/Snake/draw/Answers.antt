-- Two lines a turn: the invariant is `Snaked`; d are the lines drawn so far, with the first of the turn where there is one.
use Rattle.std.proofs.Common.{arith}
use Rattle.line.proofs.Snaked.{none, room, fits, more, all, same_place}
use Rattle.line.proofs.Snake.draw.Goals as goal

pub loop-init : goal.loop-init
loop-init c = none c.requires

pub draw_next-middle-requires : goal.draw_next-middle-requires
draw_next-middle-requires c = fits c.requires c.loop.invariant (omega (arith, c.loop-test.true))

pub slice_bounds-draw_next-count-in-loop : goal.slice_bounds-draw_next-count-in-loop
slice_bounds-draw_next-count-in-loop c =
    let e = c.draw_next-middle.ensures in
    let d = more c.requires c.loop.invariant (omega (arith, c.loop-test.true)) e.next e.buf_after in
    omega (arith, room c.requires d (omega (arith, c.loop-test.true)))

pub slice_bounds-draw_next-start-in-loop : goal.slice_bounds-draw_next-start-in-loop
slice_bounds-draw_next-start-in-loop c = omega (arith, slice_bounds-draw_next-count-in-loop c)

pub draw_next-from-requires : goal.draw_next-from-requires
draw_next-from-requires c =
    let e = c.draw_next-middle.ensures in
    let d = more c.requires c.loop.invariant (omega (arith, c.loop-test.true)) e.next e.buf_after in
    fits c.requires d (omega (arith, c.loop-test.true))

pub loop-preserved : goal.loop-preserved
loop-preserved c =
    let e = c.draw_next-middle.ensures in
    let d = more c.requires c.loop.invariant (omega (arith, c.loop-test.true)) e.next e.buf_after in
    let e2 = c.draw_next-from.ensures in
    same_place (omega arith) (omega arith) (more c.requires d (omega (arith, c.loop-test.true)) e2.next e2.buf_after)

-- the last line, where their number is odd
pub returns-then-self-eq1 : goal.returns-then-self-eq1
returns-then-self-eq1 c =
    let d = c.loop.invariant in
    let e = c.draw_next.ensures in
    all c.requires (more c.requires d (omega (arith, d.turns, c.loop-test.false, c.if-self-eq1.true)) e.next e.buf_after)
    (omega (arith, c.loop-test.false, c.if-self-eq1.true))
