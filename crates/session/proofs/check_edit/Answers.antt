-- The edit's test, then the room for the list after it.
use Rattle.std.specs.Prelude.{Ok}
use Prim.Native.Nat.{ℕ, ◌+◌, ◌-◌, ◌*◌}
use mathlib.Core.Path.{sym, ap, ◌∙◌}
use lib.Dec.{leb}
use lib.ListN.{length}
use Rattle.grid.specs.declared.Refusal.TheVariants.{NoSuchEdit, ShortBuffer}
use Rattle.grid.specs.Check.{expect}
use Rattle.grid.specs.Bytes.{front}
use Rattle.grid.proofs.Tests.{expect_yes}
use Rattle.grid.proofs.Passed.{expect_passed}
use Rattle.detour.specs.Detour.{of_kind}
use Rattle.edit_list.proofs.Cuts.{length_front}
use Rattle.session.proofs.Leaving.{count_after}
use Rattle.session.proofs.check_edit.Goals as goal

pub returns : goal.returns
returns c =
    let a = c.args in
    let l = front a.cells a.list.now in
    let can = sym c.can_edit.ensures ∙ expect_passed _ NoSuchEdit _ (sym c.ensure.ensures ∙ c.in_ok-ensure.was) in
    let after = c.cells_after.ensures
    ∙ ap (λ (k : ℕ). of_kind a.e.kind (k + 2) (k - 2)) (sym (length_front a.list.now a.cells c.requires.0))
    ∙ count_after a.p a.e l can in
    expect_yes _ _ can (c.ensure-2.ensures ∙ ap (λ (k : ℕ). expect (leb (2 * k) (length a.list.now)) ShortBuffer (Ok tt)) after)
