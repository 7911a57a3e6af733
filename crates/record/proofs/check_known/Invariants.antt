-- The invariant: the bytes from the next one on decide the test of all letters.
use mathlib.Core.Path.{◌≡◌}
use lib.ListN.{drop}
use Rattle.step_letters.specs.Letters.{all_known}
use Rattle.record.proofs.check_known.Given as goal

abbrev pub invariant-loop-letter : goal.invariant-loop-letter
invariant-loop-letter l = all_known (drop l.letter-index l.letters) ≡ all_known l.letters
