-- The invariant: the digits of what is left, and those already in scratch, from `at` on, are the number's.
use mathlib.Core.Path.{◌≡◌}
use lib.ListN.{length}
use Rattle.text.proofs.Puts.{Digits}
use Rattle.text.proofs.write.digits_of.Given as goal

abbrev pub invariant-loop-rest : goal.invariant-loop-rest
invariant-loop-rest l = (length l.scratch ≡ length l.initial.scratch) × Digits l.n l.rest l.scratch l.at

abbrev pub decreases-loop-rest : goal.decreases-loop-rest
decreases-loop-rest l = l.rest
