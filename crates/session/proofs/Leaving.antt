-- What an edit leaves, test by test; how many cells the list has after it; and what Judge's answer says of a session's list.
use Rattle.std.specs.Prelude.{Result, Ok, Err}
use Prim.Native.Nat.{ℕ, ◌+◌, ◌-◌, ◌*◌, ◌≤◌}
use native.Mathlib.Omega.{arith}
use borrow.Author.Tests.{leb-true}
use mathlib.Core.Path.{◌≡◌, refl, sym, ap, subst, ◌∙◌}
use mathlib.Core.Bool.{Bool, true, false, cond, ◌&&◌}
use mathlib.Core.List.{List}
use lib.Dec.{leb}
use lib.ListN.{length}
use lib.Seq.{length-take-le}
use Rattle.grid.specs.declared.Panel.{Panel}
use Rattle.grid.specs.declared.Cell.{Cell}
use Rattle.grid.specs.declared.Cells.{Cells}
use Rattle.grid.specs.declared.Refusal.{Refusal}
use Rattle.grid.specs.declared.Refusal.TheVariants.{NothingRecorded}
use Rattle.grid.specs.Check.{Check}
use Rattle.grid.specs.Check.{expect, answer}
use Rattle.grid.specs.Bytes.{front}
use Rattle.grid.proofs.Answers.{gives_cells, check_behind, check_behind_lem}
use Rattle.grid.proofs.Facts.{and_left, and_right}
use Rattle.grid.proofs.Passed.{after_passed}
use Rattle.grid.proofs.Tests.{expect_yes, expect_no, after_good, after_refused, answer_good, answer_refused}
use Rattle.list.proofs.Cells.{length_cells}
use Rattle.list.proofs.Whole.{whole}
use Rattle.judge.specs.Judge.{sizes_check, judge_check, Judges}
use Rattle.judge.proofs.Checks.{Sized, sized, count_small}
use Rattle.detour.specs.declared.Edit.{Edit}
use Rattle.detour.specs.Detour.{edited, can_edit, with_zeros, of_kind}
use Rattle.detour.proofs.Facts.{by_kind}
use Rattle.detour.proofs.Lists.{bulged_length, pressed_length}
use Rattle.session.specs.declared.Session.{Session}
use Rattle.session.specs.declared.Command.{Command}
use Rattle.session.specs.Session.{kept_edits, list_cells, list_of, ready, meant, changed}
use Rattle.session.specs.Edits.{session_cells, edit_of, edit_test, edit_check, EditLeaves, Edits}

-- ---- the list after an edit

pub count_after : (p : Panel) (e : Edit) (l : List Cell) → can_edit p e l ≡ true
    → of_kind e.kind (length l + 2) (length l - 2) ≡ length (edited e l)
count_after p e l can =
    by_kind p e l (λ b m. of_kind b (length l + 2) (length l - 2) ≡ length m)
    (λ c. sym (bulged_length c))
    (λ c. let size = pressed_length c in omega arith)
    can

-- ---- what is left

module _ {k : Check} (c : Command) (e : Edit) (l : List Cell) (s : Session) (buffer : List ℕ) {s' : Session} {a : Result Cells Refusal} where
  pub leaves_refused : {r : Refusal} → k ≡ Err r → (s' ≡ s) × (a ≡ Err r) → EditLeaves k c e l s buffer s' buffer a
  leaves_refused f g = record {
    gives = gives_cells k (length (edited e l)) (g.1 ∙ answer_refused Err _ f);
    session = g.0 ∙ answer_refused (λ (r : Refusal). s) _ f;
    list = answer_refused (λ (r : Refusal). buffer) _ f;
  }

  pub leaves_made : k ≡ Ok tt → {n : ℕ} → n ≡ length (edited e l) → s' ≡ changed c e n s → a ≡ Ok (record { 0 = n })
      → {buffer' : List ℕ} → buffer' ≡ with_zeros (edited e l) (length buffer) → EditLeaves k c e l s buffer s' buffer' a
  leaves_made f size session given list = record {
    gives = gives_cells k (length (edited e l)) (answer_good Err _ f (given ∙ ap (λ (j : ℕ). Ok (record { 0 = j })) size));
    session = answer_good (λ (r : Refusal). s) _ f (session ∙ ap (λ (j : ℕ). changed c e j s) size);
    list = answer_good (λ (r : Refusal). buffer) _ f list;
  }

-- ---- the session's list

module _ (s : Session) (buffer : List ℕ) where
  abbrev n : ℕ
  n = list_cells s (length buffer)

  by_test : (b : Bool) → (leb (2 * s.count.0) (length buffer) && leb s.recorded kept_edits) ≡ b
      → (2 * cond b s.count.0 0 ≤ length buffer)
      × (1 ≤ cond b s.count.0 0 → (s.recorded ≤ kept_edits) × (cond b s.count.0 0 ≡ s.count.0))
  by_test true f =
      let fits = leb (2 * s.count.0) (length buffer) in
      (leb-true _ _ (and_left fits (leb s.recorded kept_edits) f), λ h. (leb-true _ _ (and_right fits (leb s.recorded kept_edits) f), refl))
  by_test false f = (omega arith, λ h. absurd (omega arith))

  pub list_held : 2 * n ≤ length buffer
  list_held = (by_test _ refl).0

  pub few_recorded : 1 ≤ n → s.recorded ≤ kept_edits
  few_recorded h = ((by_test _ refl).1 h).0

  pub all_counted : 1 ≤ n → n ≡ s.count.0
  all_counted h = ((by_test _ refl).1 h).1

  pub list_size : length (list_of s buffer) ≡ 2 * n
  list_size = length-take-le (2 * n) buffer list_held

  -- what Judge answers of it
  module _ (p : Panel) (a z : Cell) (old : List ℕ) {new : List ℕ} {j : Result Cells Refusal} (g : Judges p a z (list_of s buffer) old new j) where
    abbrev judged : Check
    judged = judge_check p a z (list_of s buffer) (length old)

    is_check : check_behind j ≡ judged
    is_check = check_behind_lem judged _ g.gives.answers

    pub judge_refused : {r : Refusal} → j ≡ Err r → judged ≡ Err r
    judge_refused f = sym is_check ∙ ap check_behind f

    pub judge_good : {k : Cells} → j ≡ Ok k → judged ≡ Ok tt
    judge_good f = sym is_check ∙ ap check_behind f

  -- where it accepts
  module _ (p : Panel) (a z : Cell) (room : ℕ) (good : judge_check p a z (list_of s buffer) room ≡ Ok tt) where
    sizes : Sized p a z (length (list_of s buffer)) room
    sizes = sized p a z _ room (after_passed (sizes_check p a z (length (list_of s buffer)) room) _ good)

    pub some_cells : 1 ≤ n
    some_cells = omega (arith, (whole (length (list_of s buffer)) sizes.whole).0, list_size)

    pub few_cells : n ≤ 16384
    few_cells = omega (arith, count_small p a z (list_of s buffer) room good, length_cells (list_of s buffer), list_size)

-- ---- what the command means: an edit where what it takes back, if it does, is recorded

pub is_ready : (b : Bool) (e : Edit) {f : Edit} → answer (expect b NothingRecorded (Ok tt)) Err (Ok e) ≡ Ok f → (b ≡ true) × (f ≡ e)
is_ready true e q = (refl, cc)
is_ready false e q = absurd cc

pub not_ready : (b : Bool) (e : Edit) {r : Refusal} → answer (expect b NothingRecorded (Ok tt)) Err (Ok e) ≡ Err r
    → (b ≡ false) × (r ≡ NothingRecorded)
not_ready true e q = absurd cc
not_ready false e q = (refl, cc)

-- ---- the promise: where Judge refuses, where there is nothing to take back, and of what is left behind these

module _ (p : Panel) (a z : Cell) (c : Command) (s : Session) (buffer old : List ℕ) {new : List ℕ} {j : Result Cells Refusal}
    (g : Judges p a z (list_of s buffer) old new j) where
  abbrev after_judge : Check
  after_judge = expect (ready c s) NothingRecorded (edit_test p (edit_of c s buffer) (session_cells s buffer) (length buffer))

  refused_by : {r : Refusal} → edit_check p a z c s buffer (length old) ≡ Err r → {s' : Session} {d : Result Cells Refusal}
      → (s' ≡ s) × (d ≡ Err r) → Edits p a z c s buffer old s' buffer new d
  refused_by f h = record { leaves = leaves_refused c (edit_of c s buffer) (session_cells s buffer) s buffer f h; scratch = g.scratch }

  pub by_judge : {r : Refusal} → j ≡ Err r → {s' : Session} {d : Result Cells Refusal} → (s' ≡ s) × (d ≡ Err r)
      → Edits p a z c s buffer old s' buffer new d
  by_judge f = refused_by (sym (after_refused after_judge (judge_refused s buffer p a z old g f)))

  module _ {k : Cells} (f : j ≡ Ok k) where
    accepted : judge_check p a z (list_of s buffer) (length old) ≡ Ok tt
    accepted = judge_good s buffer p a z old g f

    pub by_record : ready c s ≡ false → {s' : Session} {d : Result Cells Refusal} → (s' ≡ s) × (d ≡ Err NothingRecorded)
        → Edits p a z c s buffer old s' buffer new d
    by_record h = refused_by (sym (after_good after_judge accepted (expect_no NothingRecorded _ h)))

    pub by_edit : ready c s ≡ true → {m : ℕ} {e : Edit} → m ≡ list_cells s (length buffer) → e ≡ meant c s (front m buffer)
        → {s' : Session} {buffer' : List ℕ} {d : Result Cells Refusal}
        → EditLeaves (edit_test p e (front m buffer) (length buffer)) c e (front m buffer) s buffer s' buffer' d
        → Edits p a z c s buffer old s' buffer' new d
    by_edit h {m} count is {s'} {buffer'} {d} left =
        let Left : ℕ → Edit → Type 0 =
        λ (i : ℕ) (b : Edit). EditLeaves (edit_test p b (front i buffer) (length buffer)) c b (front i buffer) s buffer s' buffer' d in
        let meant_left : Left m (meant c s (front m buffer)) = subst (Left m) is left in
        let own : Left (list_cells s (length buffer)) (edit_of c s buffer) = subst (λ (i : ℕ). Left i (meant c s (front i buffer))) count meant_left in
        let test = after_good after_judge accepted (expect_yes NothingRecorded _ h refl) in
        record {
          leaves = subst (λ (k : Check). EditLeaves k c (edit_of c s buffer) (session_cells s buffer) s buffer s' buffer' d) test own;
          scratch = g.scratch;
        }
