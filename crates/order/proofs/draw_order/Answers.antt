-- By the answer of Bound: its refusal, or the track drawn.
use mathlib.Core.Path.{◌≡◌}
use lib.ListN.{length}
use Rattle.order.proofs.Answers.{draws_given}
use borrow.Author.Rules.{rules}
use Rattle.order.proofs.draw_order.Goals as goal

pub returns : goal.returns
returns c =
    let o = c.args.o in
    let size : length c.args.cells.now ≡ 32768 = search rules in
    draws_given o.panel o.entry o.exit c.in_ok-found.found (search rules) size c.draw-cells.ensures.draws
