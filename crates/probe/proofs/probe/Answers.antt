-- The tests in order, then the search in the scratch that Judge left clean.
use Rattle.std.specs.Prelude.{Ok}
use Rattle.std.proofs.Common.{rules}
use mathlib.Core.Bool.{Bool, true}
use mathlib.Core.Path.{◌≡◌, sym, ap, ◌∙◌}
use lib.ListN.{length}
use Rattle.grid.specs.declared.Refusal.TheVariants.{CellOff}
use Rattle.grid.specs.Bytes.{cells_in}
use Rattle.grid.specs.Check.{expect}
use Rattle.grid.proofs.Passed.{expect_passed}
use Rattle.list.specs.List.{all_on}
use Rattle.probe.specs.Probe.{few_probes}
use Rattle.probe.proofs.Checks.{judge_refused, probe_refused, searched, all_good}
use Rattle.probe.proofs.probe.Goals as goal

pub returns-in_err-judge : goal.returns-in_err-judge
returns-in_err-judge c =
    let few : few_probes (length c.args.probes.now) ≡ true = sym c.few_probes.ensures ∙ expect_passed _ _ _ (sym c.ensure.ensures ∙ c.in_ok-ensure.was) in
    judge_refused _ _ _ _ _ _ few c.judge.ensures c.in_err-judge.was (search rules)

pub returns-in_err-ensure-2 : goal.returns-in_err-ensure-2
returns-in_err-ensure-2 c =
    let few : few_probes (length c.args.probes.now) ≡ true = sym c.few_probes.ensures ∙ expect_passed _ _ _ (sym c.ensure.ensures ∙ c.in_ok-ensure.was) in
    let off = ap (λ (b : Bool). expect b CellOff (Ok tt)) c.all_on_panel.ensures in
    probe_refused _ _ _ _ _ _ few c.judge.ensures c.in_ok-judge.was (sym (c.ensure-2.ensures ∙ off) ∙ c.in_err-ensure-2.was) (search rules)

pub find_probes-requires-clause-searched : goal.find_probes-requires-clause-searched
find_probes-requires-clause-searched c =
    let few : few_probes (length c.args.probes.now) ≡ true = sym c.few_probes.ensures ∙ expect_passed _ _ _ (sym c.ensure.ensures ∙ c.in_ok-ensure.was) in
    let on : all_on c.args.o.panel (cells_in c.args.probes.now) ≡ true =
    sym c.all_on_panel.ensures ∙ expect_passed _ _ _ (sym c.ensure-2.ensures ∙ c.in_ok-ensure-2.was) in
    searched _ _ _ _ _ c.judge.ensures c.in_ok-judge.was c.args.probes.now few on

pub returns : goal.returns
returns c =
    let found = c.find_probes.ensures.found in
    let few : few_probes (length c.args.probes.now) ≡ true = sym c.few_probes.ensures ∙ expect_passed _ _ _ (sym c.ensure.ensures ∙ c.in_ok-ensure.was) in
    let on : all_on c.args.o.panel (cells_in c.args.probes.now) ≡ true =
    sym c.all_on_panel.ensures ∙ expect_passed _ _ _ (sym c.ensure-2.ensures ∙ c.in_ok-ensure-2.was) in
    all_good _ _ _ _ _ _ few c.judge.ensures c.in_ok-judge.was on c.find_probes.ensures.left
    (λ i. record { positions = (found i).positions; nearest = c.nearest_cells-nearest.ensures i; read = (found i).read })
