-- Line by line from the end of the buffer's part: the invariant is `Ended`, the measure the sum of the sides that remain.
use Prim.Native.Nat.{◌+◌}
use Rattle.grid.specs.Panel.{dist}
use Rattle.corner.proofs.Backward.{Ended}
use Rattle.corner.proofs.corner_track_back.Given as goal

abbrev pub invariant-loop-p : goal.invariant-loop-p
invariant-loop-p l = let r = l.rest in Ended l.fn.a l.fn.b l.fn.t l.fn.buf r.corner r.opposite r.target l.at l.buf

abbrev pub decreases-loop-p : goal.decreases-loop-p
decreases-loop-p l = dist l.rest.corner.x l.rest.opposite.x + dist l.rest.corner.y l.rest.opposite.y
