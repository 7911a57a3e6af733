-- Answers behind a check: what is read off an answer is read off each of its cases; the promises of one value; and that an answer which is no
-- refusal comes of a good check.
use Rattle.std.specs.Prelude.{Result, Ok, Err}
use Prim.Native.Nat.{ℕ}
use mathlib.Core.Path.{◌≡◌, refl, ap, ◌∙◌}
use mathlib.Core.Logic.{◌≢◌}
use Rattle.grid.specs.declared.Refusal.{Refusal}
use Rattle.grid.specs.declared.Cells.{Cells}
use Rattle.grid.specs.Check.{Check}
use Rattle.grid.specs.Check.{after, answer}
use Rattle.grid.specs.Answer.{cells_answer, cells_values, GivesCells, bytes_answer, bytes_values, GivesBytes}
use Rattle.grid.proofs.Facts.{clash}

pub read_off {ℓ κ} : {A : Type ℓ} {B : Type κ} (f : A → B) (c : Check) (g : Refusal → A) (a : A) {r : A} → r ≡ answer c g a
    → f r ≡ answer c (λ q. f (g q)) (f a)
read_off f (Ok tt) g a e = ap f e
read_off f (Err s) g a e = ap f e

-- an answer behind two checks, one after the other, is the one behind what they are together
pub answer_after {ℓ} : {A : Type ℓ} (c d : Check) {k : Check} (f : Refusal → A) (a : A) → after c d ≡ k → answer c f (answer d f a) ≡ answer k f a
answer_after (Ok tt) d f a e = ap (λ (k : Check). answer k f a) e
answer_after (Err r) d f a e = ap (λ (k : Check). answer k f a) e

pub gives_cells : (c : Check) (k : ℕ) {r : Result Cells Refusal} → r ≡ cells_answer c k → GivesCells c k r
gives_cells c k e = record {
  answers = e;
  number = read_off (λ (a : Result Cells Refusal). (cells_values a).refusal) c _ _ e;
  count = read_off (λ (a : Result Cells Refusal). (cells_values a).cells.0) c _ _ e;
}

pub gives_bytes : (c : Check) (k : ℕ) {r : Result ℕ Refusal} → r ≡ bytes_answer c k → GivesBytes c k r
gives_bytes c k e = record {
  answers = e;
  number = read_off (λ (a : Result ℕ Refusal). (bytes_values a).refusal) c _ _ e;
  bytes = read_off (λ (a : Result ℕ Refusal). (bytes_values a).bytes) c _ _ e;
}

-- an answer that is none of the refusals is the one behind a good check
pub behind_good {ℓ} : {A : Type ℓ} (c : Check) (f : Refusal → A) (a z : A) → ((r : Refusal) → f r ≢ z)
    → answer c f a ≡ z → (c ≡ Ok tt) × (a ≡ z)
behind_good (Ok tt) f a z n e = (refl, e)
behind_good (Err r) f a z n e = absurd (n r e)

-- the check behind an answer in cells
abbrev pub check_behind : Result Cells Refusal → Check
check_behind (Err r) = Err r
check_behind (Ok k) = (Ok tt)

pub check_behind_lem : (c : Check) (n : ℕ) {a : Result Cells Refusal} → a ≡ cells_answer c n → check_behind a ≡ c
check_behind_lem c n e = ap check_behind e ∙ go c
  where
    go : (c : Check) → check_behind (cells_answer c n) ≡ c
    go (Ok tt) = refl
    go (Err r) = refl

pub cells_good : (c : Check) (n : ℕ) (k : Cells) → cells_answer c n ≡ Ok k → (c ≡ Ok tt) × (n ≡ k.0)
cells_good c n k e =
    let (g, h) = behind_good c Err (Ok (record { 0 = n })) (Ok k) (λ r q. clash (cc)) e in
    (g, ap (λ (a : Result Cells Refusal). (cells_values a).cells.0) h)
