-- The invariant: what the numbers from here on make of the line, with those read before, is the line.
use Prim.Native.Nat.{◌-◌}
use mathlib.Core.Path.{◌≡◌}
use lib.ListN.{length, drop}
use Rattle.order.specs.Line.{line_in}
use Rattle.order.proofs.Lines.{line_from}
use Rattle.order.proofs.read.read_line.Given as goal

abbrev pub invariant-loop-i : goal.invariant-loop-i
invariant-loop-i l = (length l.first ≡ 6) × (line_from (6 - l.i) l.first (drop l.from l.input) ≡ line_in l.input)
