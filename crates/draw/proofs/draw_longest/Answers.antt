-- Sides of 3 and 3 are drawn from the table. For any others the chosen plan is good, so its legs can be drawn.
use mathlib.Core.Path.{sym, ◌∙◌}
use borrow.Author.Rules.{rules}
use Rattle.draw.proofs.Drawing.{three_ready, plan_room, plan_drawn}
use Rattle.draw.proofs.draw_longest.Goals as goal

pub draw_small-requires : goal.draw_small-requires
draw_small-requires c = three_ready _ _ _ _ _ (sym c.is_three.ensures ∙ c.if-is_three.true) c.requires

pub plan_of-chosen-requires : goal.plan_of-chosen-requires
plan_of-chosen-requires c = let o = c.requires 0 in search rules

pub draw_plan-requires : goal.draw_plan-requires
draw_plan-requires c = plan_room (c.requires 0) c.plan_of-chosen.ensures

pub returns : goal.returns
returns c = plan_drawn (c.requires 0) c.plan_of-chosen.ensures (sym c.is_three.ensures ∙ c.if-is_three.false) c.draw_plan.ensures
