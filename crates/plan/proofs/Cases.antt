-- A definition by a test on two numbers, decided: what holds in both cases holds of the choice. Each law follows one kind of test of the plan.
use Prim.Native.Nat.{ℕ, ◌≤◌, ◌<◌}
use mathlib.Core.Path.{◌≡◌, ap, ◌∙◌}
use mathlib.Core.Logic.{◌⊎◌, inl, inr, ⊎_elim}
use mathlib.Core.Bool.{Bool, true, cond, ◌||◌, or-true}
use lib.Dec.{eqb, ltb}
use borrow.Author.Tests.{eqb-true, eqb-false, ltb-true, ltb-false}
use Rattle.grid.proofs.Facts.{or_cases}
use Rattle.grid.proofs.Tests.{both_branches}

module _ {ℓ} {A : Type ℓ} (P : A → Type 0) where
  pub if_equal : (a b : ℕ) (x y : A) → (a ≡ b → P x) → ((a ≡ b → ⊥) → P y) → P (cond (eqb a b) x y)
  if_equal a b x y f g = both_branches P (eqb a b) x y (λ e. f (eqb-true a b e)) (λ e. g (eqb-false a b e))

  pub if_less : (a b : ℕ) (x y : A) → (a < b → P x) → (b ≤ a → P y) → P (cond (ltb a b) x y)
  if_less a b x y f g = both_branches P (ltb a b) x y (λ e. f (ltb-true a b e)) (λ e. g (ltb-false a b e))

-- one of two numbers
pub one_of : (a b c : ℕ) → (eqb a b || eqb a c) ≡ true → (a ≡ b) ⊎ (a ≡ c)
one_of a b c e = ⊎_elim (λ h. inl (eqb-true a b h)) (λ h. inr (eqb-true a c h)) (or_cases (eqb a b) (eqb a c) e)

-- one of two tests
pub or_left : {a : Bool} (b : Bool) → a ≡ true → (a || b) ≡ true
or_left b e = ap (λ (x : Bool). x || b) e

pub or_right : (a : Bool) {b : Bool} → b ≡ true → (a || b) ≡ true
or_right a e = ap (λ (x : Bool). a || x) e ∙ or-true a
