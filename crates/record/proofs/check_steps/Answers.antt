-- A turn tests the cell that the letter leads to, and leaves the others.
use Rattle.std.proofs.Common.{◌+◌, ◌∙◌, sym, ap, drop, get_or}
use Rattle.grid.proofs.Facts.{and_parts}
use Rattle.grid.proofs.Lists.{drop_next}
use Rattle.grid.proofs.Passed.{expect_passed}
use Rattle.grid.proofs.Tests.{turn_passed}
use Rattle.list.specs.List.{all_on}
use Rattle.step_letters.specs.Letters.{known, all_known}
use Rattle.record.proofs.Walks.{on_largest, leads_to_next, walk_more}
use Rattle.record.proofs.check_steps.Goals as goal

pub loop-letter-preserved : goal.loop-letter-preserved
loop-letter-preserved c =
    let p = c.args.p in
    let l = c.args.letters.now in
    let i = c.loop-letter.letter-index in
    let at = c.loop-letter.at in
    let on = sym c.on_panel.ensures ∙ expect_passed _ _ _ (sym c.ensure.ensures ∙ c.in_ok-ensure.was {u = tt}) in
    let more = walk_more l i at c.loop-letter-test.true (leads_to_next l i at c.step_by.ensures (c.in_ok-at.was {u = tt})) in
    record {
      on = on_largest p c.in_ok-at.at c.requires.good on;
      left = (and_parts (known (get_or l i 0)) (all_known (drop (i + 1) l))
          (sym (ap all_known (drop_next 0 l i c.loop-letter-test.true)) ∙ c.loop-letter.invariant.left)).1;
      same = turn_passed _ _ (ap (all_on p) more) c.loop-letter.invariant.same on;
    }
