-- The invariant: what is read from i on with the sum so far is what is read from the first digit on.
use Rattle.std.proofs.Common.{◌≡◌, ◌≤◌, drop}
use Rattle.text.specs.Field.{largest_number, ended, more_digits}
use Rattle.text.proofs.read.read_digits.Given as goal

abbrev pub invariant-loop-i : goal.invariant-loop-i
invariant-loop-i l = (l.sum ≤ largest_number) × (ended l.end (more_digits l.sum (drop l.i l.input)) ≡ ended l.end (more_digits l.v (drop l.from l.input)))
