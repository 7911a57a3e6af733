-- The tests of the sizes; then the scratch is cleared, so that the logs' tests find it clean, and cleared again.
use mathlib.Core.Path.{sym, ◌∙◌}
use Rattle.scratch.proofs.Clean.{cleared_again}
use Rattle.logs.proofs.Passed.{sizes_good}
use Rattle.logs.proofs.compare.Goals as goal

pub returns : goal.returns
returns c =
    let a = c.args in
    let again = cleared_again a.p a.scratch.now c.compare_entries-told.new.scratch c.clear.ensures c.compare_entries-told.ensures.rest in
    sizes_good _ _ _ _ (sym c.check_sizes.ensures ∙ c.in_ok-check_sizes.was {u = tt}) c.compare_entries-told.ensures.told (c.clear-2.ensures ∙ again)
