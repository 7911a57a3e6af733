-- What was read is within the buffer; each turn reads some bytes more.
use Rattle.std.proofs.Common.{◌-◌, ◌≤◌, length}
use Rattle.line_input.proofs.read_until.Given as goal

abbrev pub invariant-loop-n : goal.invariant-loop-n
invariant-loop-n g l = l.n ≤ length l.bytes

abbrev pub decreases-loop-n : goal.decreases-loop-n
decreases-loop-n g l = length l.bytes - l.n
