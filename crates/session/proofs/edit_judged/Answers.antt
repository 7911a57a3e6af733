-- The tests in order, then the edit, its count and the session.
use borrow.Author.Tests.{leb-true}
use Prim.Native.Nat.{ℕ, ◌+◌, ◌-◌}
use mathlib.Core.Path.{refl, sym, ap, ◌∙◌}
use Rattle.grid.specs.declared.Refusal.TheVariants.{ShortBuffer, NoSuchEdit}
use Rattle.grid.specs.Bytes.{front}
use Rattle.grid.proofs.Passed.{expect_passed, expect_rest}
use Rattle.detour.specs.Detour.{can_edit, of_kind}
use Rattle.edit_list.proofs.Cuts.{length_front}
use Rattle.session.proofs.Leaving.{count_after, leaves_made}
use Rattle.session.proofs.edit_judged.Goals as goal

pub make-requires-clause-room : goal.make-requires-clause-room
make-requires-clause-room c =
    let good = sym c.check_edit.ensures ∙ c.in_ok-check_edit.was in
    leb-true _ _ (expect_passed _ ShortBuffer _ (expect_rest (can_edit c.args.p c.args.e (front c.args.cells c.args.list.now)) NoSuchEdit _ good))

pub make-requires-clause-can : goal.make-requires-clause-can
make-requires-clause-can c =
    let can = expect_passed _ NoSuchEdit _ (sym c.check_edit.ensures ∙ c.in_ok-check_edit.was) in
    record { panel = c.args.p; sides = c.requires.good; can = can }

pub returns : goal.returns
returns c =
    let a = c.args in
    let l = front a.cells a.list.now in
    let good = sym c.check_edit.ensures ∙ c.in_ok-check_edit.was in
    let can = expect_passed _ NoSuchEdit _ good in
    let size = c.cells_after.ensures
    ∙ ap (λ (k : ℕ). of_kind a.e.kind (k + 2) (k - 2)) (sym (length_front a.list.now a.cells c.requires.held.0))
    ∙ count_after a.p a.e l can in
    leaves_made a.c a.e l a.s.now a.list.now good size c.change.ensures refl c.make.ensures
