-- The lines of a rectangle in bytes are at most 256, of at most 256 cells.
use native.Mathlib.Omega.{arith}
use Rattle.corner.proofs.First.{line_small, lines_small}
use Rattle.corner.proofs.Rectangle.first_lines.Goals as goal

pub overflow_add-result : goal.overflow_add-result
overflow_add-result c = rw (c.distance.ensures, c.seen-from.ensures, c.seen-to.ensures) (let s = line_small c.args.along c.args.self.fits in omega arith)

pub overflow_mul-result : goal.overflow_mul-result
overflow_mul-result c = rw (c.distance.ensures, c.seen-from.ensures, c.seen-to.ensures) (let s = lines_small c.args.along c.args.self.fits c.requires in omega arith)
