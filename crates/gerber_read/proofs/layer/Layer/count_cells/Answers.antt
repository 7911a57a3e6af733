-- A step that leads nowhere, to the end, or to one more cell.
use Rattle.std.proofs.Common.{◌∙◌, ap, Some, arith, rules}
use Rattle.gerber_read.proofs.Found.{all_counted, counts_none, counts_end, counts_on, ahead_on}
use Rattle.grid.specs.Panel.{area}
use Rattle.gerber_read.proofs.layer.Layer.count_cells.Goals as goal

pub returns-in_err-step_on : goal.returns-in_err-step_on
returns-in_err-step_on c =
    let a = c.args in
    let l = c.loop-behind in
    let e =
    all_counted a.self.panel a.self.file.now a.first c.start_at-t.ensures
    (counts_none _ _ l.t c.step_on.ensures (area a.self.panel) l.behind (omega arith) c.in_err-step_on.was ∙ l.invariant.1) in
    search rules

pub returns-in-None : goal.returns-in-None
returns-in-None c =
    let a = c.args in
    let l = c.loop-behind in
    all_counted a.self.panel a.self.file.now a.first c.start_at-t.ensures
    (counts_end _ _ l.t c.step_on.ensures (area a.self.panel) l.behind (omega arith) (c.in_ok-step_on.was ∙ ap Some c.in-None.is) ∙ l.invariant.1)

pub loop-behind-preserved : goal.loop-behind-preserved
loop-behind-preserved c =
    let l = c.loop-behind in (
      ahead_on _ _ l.t c.step_on.ensures (c.in_ok-step_on.was ∙ ap Some c.in-Some.is),
      counts_on _ _ l.t c.step_on.ensures (area c.args.self.panel) l.behind (omega arith) (c.in_ok-step_on.was ∙ ap Some c.in-Some.is) ∙ l.invariant.1,
    )
