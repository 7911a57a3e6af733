-- A fit in row y is the first of the panel, since none fits in the rows before y; where none fits in the last row either, none does.
use Rattle.std.proofs.Common.{◌+◌, arith}
use Rattle.exit.proofs.Reading.{hit, miss, all_passed}
use Rattle.exit.proofs.Search.in_panel.Goals as goal

pub returns-in-Some : goal.returns-in-Some
returns-in-Some c = hit c.loop-y.invariant c.args.self.panel.height {k = c.loop-y.y} c.in-Some.ensures (omega arith) (omega arith) (omega arith)

pub returns-in_default : goal.returns-in_default
returns-in_default c =
    all_passed (miss c.loop-y.invariant {z = c.loop-y.y + 1} c.in_default.ensures (omega arith) (omega arith)) c.args.self.panel.height (omega arith)
