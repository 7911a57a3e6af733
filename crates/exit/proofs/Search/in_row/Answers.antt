-- A fit at x is the first of the row, since no cell before x fits; where the last x does not fit either, none does.
use Rattle.std.proofs.Common.{◌+◌, refl, sym, arith, Some, None}
use Rattle.grid.proofs.Tests.{cond_yes, cond_no}
use Rattle.exit.proofs.Reading.{hit, miss, all_passed}
use Rattle.exit.proofs.Search.in_row.Goals as goal

pub returns-then-fits : goal.returns-then-fits
returns-then-fits c =
    let x = c.loop-x.x in
    hit c.loop-x.invariant c.args.self.panel.width {k = x} (cond_yes (Some (record { x = x; y = c.args.y })) None (sym c.if-fits.ensures) refl)
    (omega arith) (omega arith) (omega arith)

pub returns-else-fits : goal.returns-else-fits
returns-else-fits c =
    let x = c.loop-x.x in
    all_passed (miss c.loop-x.invariant {z = x + 1} (cond_no (Some (record { x = x; y = c.args.y })) None (sym c.if-fits.ensures) refl)
    (omega arith) (omega arith)) c.args.self.panel.width (omega arith)
