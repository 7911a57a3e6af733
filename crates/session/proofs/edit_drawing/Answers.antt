-- The session's list judged, then what the command takes back, then the edit.
use Rattle.std.specs.Prelude.{Result, Err}
use Rattle.std.proofs.Common.{rules}
use native.Mathlib.Omega.{arith}
use Prim.Native.Nat.{ℕ, ◌*◌}
use mathlib.Core.Path.{◌≡◌, refl, sym, ap, subst, ◌∙◌}
use mathlib.Core.List.{List}
use lib.ListN.{length, take}
use Rattle.grid.specs.declared.Panel.{Panel}
use Rattle.grid.specs.declared.Cell.{Cell}
use Rattle.grid.specs.declared.Cells.{Cells}
use Rattle.grid.specs.declared.Refusal.{Refusal}
use Rattle.judge.specs.Judge.{Judges}
use Rattle.session.specs.declared.Session.{Session}
use Rattle.session.specs.Session.{list_cells, list_of}
use Rattle.session.proofs.Leaving.{list_held, is_ready, not_ready, judge_good, few_cells, by_judge, by_record, by_edit}
use Rattle.session.proofs.edit_drawing.Goals as goal

-- Judge's answer is that of the session's list
judged : (p : Panel) (a z : Cell) (s : Session) (buffer : List ℕ) {n : ℕ} {old new : List ℕ} {r : Result Cells Refusal} → n ≡ list_cells s (length buffer)
    → Judges p a z (take (2 * n) buffer) old new r → Judges p a z (list_of s buffer) old new r
judged p a z s buffer {n} {old} {new} {r} e g = subst (λ (k : ℕ). Judges p a z (take (2 * k) buffer) old new r) e g

pub returns-in_err-judge : goal.returns-in_err-judge
returns-in_err-judge c =
    let a = c.args in
    let o = a.o in
    let own = judged o.panel o.entry o.exit a.s.now a.list.now c.list_cells-cells.ensures c.judge.ensures in
    let given : c.from_residual.result ≡ Err c.in_err-judge.field-0.0 = search rules in
    by_judge o.panel o.entry o.exit a.c a.s.now a.list.now a.scratch.now own c.in_err-judge.was (refl, given)

pub returns-in_err-e : goal.returns-in_err-e
returns-in_err-e c =
    let a = c.args in
    let o = a.o in
    let own = judged o.panel o.entry o.exit a.s.now a.list.now c.list_cells-cells.ensures c.judge.ensures in
    let given : c.from_residual-in_err-e.result ≡ Err c.in_err-e.field-0.0 = search rules in
    let none = not_ready _ _ (sym c.meant.ensures ∙ c.in_err-e.was) in
    by_record o.panel o.entry o.exit a.c a.s.now a.list.now a.scratch.now own c.in_ok-judge.was none.0 (refl, given ∙ ap Err none.1)

pub edit_judged-requires-clause-held : goal.edit_judged-requires-clause-held
edit_judged-requires-clause-held c =
    let a = c.args in
    let o = a.o in
    let own = judged o.panel o.entry o.exit a.s.now a.list.now c.list_cells-cells.ensures c.judge.ensures in
    let good = judge_good a.s.now a.list.now o.panel o.entry o.exit a.scratch.now own c.in_ok-judge.was in (
      omega (arith, list_held a.s.now a.list.now, c.list_cells-cells.ensures),
      omega (arith, few_cells a.s.now a.list.now o.panel o.entry o.exit (length a.scratch.now) good, c.list_cells-cells.ensures),
    )

pub returns : goal.returns
returns c =
    let a = c.args in
    let o = a.o in
    let own = judged o.panel o.entry o.exit a.s.now a.list.now c.list_cells-cells.ensures c.judge.ensures in
    let meant = is_ready _ _ (sym c.meant.ensures ∙ c.in_ok-e.was) in
    by_edit o.panel o.entry o.exit a.c a.s.now a.list.now a.scratch.now own c.in_ok-judge.was meant.0 c.list_cells-cells.ensures meant.1
    c.edit_judged.ensures
