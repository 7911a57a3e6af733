-- A line and the lines of a rectangle in bytes are at most 256; the numbers are those of `snake_of`.
use Rattle.std.proofs.Common.{arith}
use Rattle.line.proofs.Sweep.{snake_of, snake_size, side_small}
use Rattle.line.proofs.Snake.of.Goals as goal

pub invariant_of-result-clause-most : goal.invariant_of-result-clause-most
invariant_of-result-clause-most c =
    rw (c.distance.ensures, c.seen-from.ensures, c.seen-to.ensures)
    (omega (arith, side_small c.args.along c.requires.corner c.requires.opposite))

pub returns-clause-cells : goal.returns-clause-cells
returns-clause-cells c =
    rw (
      c.cell_number.ensures,
      c.step_to.ensures,
      c.step_to-2.ensures,
      c.step_to-3.ensures,
      c.distance.ensures,
      c.distance-2.ensures,
      c.unit-unit.ensures,
      c.unit.ensures,
      c.other.ensures,
      c.seen-from.ensures,
      c.seen-to.ensures,
    ) (snake_of c.args.along c.args.a c.args.b c.requires.corner c.requires.opposite)

pub returns-clause-size : goal.returns-clause-size
returns-clause-size c =
    rw (c.distance.ensures, c.distance-2.ensures, c.seen-from.ensures, c.seen-to.ensures) (snake_size c.args.along c.args.a c.args.b)
