-- The loop keeps that the first i cells of the row, as it is placed, are written.
use Rattle.line.proofs.Written.{Written}
use Rattle.table.specs.Table.{placed_cell}
use Rattle.table.proofs.Placing.write.Given as goal

abbrev pub invariant-loop-i : goal.invariant-loop-i
invariant-loop-i l = Written (placed_cell l.self) l.n l.initial.buf l.buf l.i
