-- Class 5 has at least 2 cells to leave out.
use native.Mathlib.Omega.{arith}
use mathlib.Core.Path.{sym}
use Rattle.count.proofs.Laws.{c2_area, f3_c2}
use Rattle.class.proofs.Terminals.decide.Goals as goal

pub overflow_sub-result-then-is_f3 : goal.overflow_sub-result-then-is_f3
overflow_sub-result-then-is_f3 c =
    let o = c.args.self.order in
    omega (arith, c.area_of.ensures, c2_area o.panel o.entry o.exit c.args.self.placed.entry (f3_c2 o.panel o.entry o.exit (sym c.if-is_f3.ensures)))
