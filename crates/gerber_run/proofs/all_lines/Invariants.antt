-- The measure is what is left of the input.
use Rattle.std.proofs.Common.{length}
use Rattle.gerber_run.proofs.all_lines.Given as goal

abbrev pub invariant-loop-rest : goal.invariant-loop-rest
invariant-loop-rest g l = Unit {0}

abbrev pub decreases-loop-rest : goal.decreases-loop-rest
decreases-loop-rest g l = length l.rest
