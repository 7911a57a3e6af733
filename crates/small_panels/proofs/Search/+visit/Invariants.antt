-- What is left falls at each call, and is not 0 behind the test.
use Rattle.std.specs.Prelude.{◌<◌}
use Rattle.small_panels.proofs.Search.+visit.Given as goal

abbrev pub decreases-visit : goal.decreases-visit
decreases-visit l = l.left

abbrev pub invariant-loop-next : goal.invariant-loop-next
invariant-loop-next l = 0 < l.left
