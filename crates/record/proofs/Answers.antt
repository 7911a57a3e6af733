-- What a passed check of a record says, what the answer of a part of Read says of the check, and Read's promise from answer and buffer.
use Rattle.std.specs.Prelude.{Result, Ok, Err}
use Rattle.std.specs.Result.{IsErrAnd}
use Prim.Native.Nat.{ℕ, ◌+◌}
use mathlib.Core.Path.{◌≡◌, ap, ◌∙◌}
use mathlib.Core.Bool.{true}
use mathlib.Core.List.{List}
use lib.ListN.{length}
use Rattle.grid.specs.declared.Refusal.{Refusal}
use Rattle.grid.specs.Check.{Check}
use Rattle.grid.specs.Check.{answer}
use Rattle.grid.specs.Answer.{cells_answer}
use Rattle.grid.proofs.Answers.{read_off}
use Rattle.grid.proofs.Facts.{clash}
use Rattle.grid.proofs.Passed.{expect_passed, after_passed, after_rest}
use Rattle.grid.proofs.Tests.{answer_refused}
use Rattle.list.specs.List.{all_on}
use Rattle.step_letters.specs.Letters.{all_known}
use Rattle.record_head.specs.Head.{head_length, panel_in, entry_in, steps_in, letters_in, check_head}
use Rattle.record_head.proofs.Heads.{GoodHead, head_good}
use Rattle.record.specs.declared.Recorded.{Recorded}
use Rattle.record.specs.Read.{check_known, check_letters, cells_read, check_record, record_cells, check_read, recorded, read_answer, read_buffer, read_values, Reads}

-- what a record that is not refused says
pub record GoodRecord (f : List ℕ) : Type 0 where
  pub head : GoodHead f
  pub letters : all_known (letters_in f) ≡ true
  pub cells : all_on (panel_in f) (cells_read f) ≡ true

pub record_good : (f : List ℕ) → check_record f ≡ Ok tt → GoodRecord f
record_good f e =
    let k = after_rest (check_head f) (check_letters (panel_in f) (entry_in f) (letters_in f)) e in
    record {
      head = head_good f (after_passed (check_head f) _ e);
      letters = expect_passed (all_known (letters_in f)) _ _ (after_passed (check_known (letters_in f)) _ k);
      cells = expect_passed (all_on (panel_in f) (cells_read f)) _ _ (after_rest (check_known (letters_in f)) _ k);
    }

-- what a `?` hands on
pub is_err : {A : Type 0} (z : Result A Refusal) {r : Refusal} → IsErrAnd z (λ q. q ≡ r) → z ≡ Err r
is_err (Ok a) h = absurd h
is_err (Err q) h = ap Err h

-- an answer that is a refusal is the check's
cells_refused : (c : Check) (n : ℕ) {r : Refusal} → cells_answer c n ≡ Err r → c ≡ Err r
cells_refused (Ok tt) n e = clash (cc)
cells_refused (Err s) n e = cc

pub record_refused : (f : List ℕ) {r : Refusal} → record_cells f ≡ Err r → check_record f ≡ Err r
record_refused f = cells_refused (check_record f) (length (cells_read f))

module _ (file old : List ℕ) {r : Result Recorded Refusal} (e : r ≡ read_answer file old) where
  -- what is read off the answer is read off each of its cases
  part : (f : Result Recorded Refusal → ℕ)
      → let found = Ok (recorded (panel_in file) (length (cells_read file)) (head_length + steps_in file)) in
      f r ≡ answer (check_read file old) (λ s. f (Err s)) (f found)
  part f = read_off f (check_read file old) _ _ e

  pub reads : {new : List ℕ} → new ≡ read_buffer file old → Reads file old new r
  reads b = record {
    answers = e;
    number = part (λ a. (read_values a).refusal);
    width = part (λ a. (read_values a).panel.width);
    height = part (λ a. (read_values a).panel.height);
    pitch = part (λ a. (read_values a).panel.pitch);
    count = part (λ a. (read_values a).cells.0);
    bytes = part (λ a. (read_values a).length);
    buffer = b;
  }

-- a refusal that leaves the buffer as it was
pub refuses : (f list : List ℕ) {r : Refusal} {z : Result Recorded Refusal} → check_read f list ≡ Err r → z ≡ Err r → Reads f list list z
refuses f list e g = reads f list (g ∙ answer_refused Err _ e) (answer_refused (λ r. list) _ e)
