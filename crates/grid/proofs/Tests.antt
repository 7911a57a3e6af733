-- How a test in the code decides a definition: one law for each way that a definition goes by cases.
-- Each takes what the test showed, so that an answer to `returns` is read off the branches on the way to it.
use Rattle.std.specs.Prelude.{Ok, Err}
use mathlib.Core.Path.{◌≡◌, refl, sym, ap, subst⁻¹, ◌∙◌}
use mathlib.Core.Bool.{Bool, true, false, cond, ◌&&◌, ◌||◌}
use Rattle.grid.specs.declared.Refusal.{Refusal}
use Rattle.grid.specs.Check.{Check}
use Rattle.grid.specs.Check.{expect, after, answer}

pub and_no : {a : Bool} (b : Bool) → a ≡ false → false ≡ (a && b)
and_no b e = subst⁻¹ (λ (x : Bool). false ≡ (x && b)) e refl

pub or_yes : {a : Bool} (b : Bool) → a ≡ true → true ≡ (a || b)
or_yes b e = subst⁻¹ (λ (x : Bool). true ≡ (x || b)) e refl

-- what holds of both branches holds of the choice
pub both_branches {ℓ} : {A : Type ℓ} (P : A → Type 0) (b : Bool) (x y : A) → (b ≡ true → P x) → (b ≡ false → P y) → P (cond b x y)
both_branches P true x y f g = f refl
both_branches P false x y f g = g refl

module _ {ℓ} {A : Type ℓ} where
  pub cond_yes : {b : Bool} (x y : A) {z : A} → b ≡ true → z ≡ x → z ≡ cond b x y
  cond_yes x y {z} e f = subst⁻¹ (λ (c : Bool). z ≡ cond c x y) e f

  pub cond_no : {b : Bool} (x y : A) {z : A} → b ≡ false → z ≡ y → z ≡ cond b x y
  cond_no x y {z} e f = subst⁻¹ (λ (c : Bool). z ≡ cond c x y) e f

  pub answer_good : {c : Check} (f : Refusal → A) (a : A) {z : A} → c ≡ Ok tt → z ≡ a → z ≡ answer c f a
  answer_good f a {z} e h = subst⁻¹ (λ (c : Check). z ≡ answer c f a) e h

  pub answer_refused : {c : Check} {r : Refusal} (f : Refusal → A) (a : A) → c ≡ Err r → f r ≡ answer c f a
  answer_refused {r = r} f a e = subst⁻¹ (λ (c : Check). f r ≡ answer c f a) e refl

pub expect_yes : {b : Bool} (r : Refusal) (k : Check) {z : Check} → b ≡ true → z ≡ k → z ≡ expect b r k
expect_yes r k {z} e f = subst⁻¹ (λ (c : Bool). z ≡ expect c r k) e f

pub expect_no : {b : Bool} (r : Refusal) (k : Check) → b ≡ false → Err r ≡ expect b r k
expect_no r k e = subst⁻¹ (λ (c : Bool). Err r ≡ expect c r k) e refl

pub after_good : {c : Check} (k : Check) {z : Check} → c ≡ Ok tt → z ≡ k → z ≡ after c k
after_good k {z} e f = subst⁻¹ (λ (c : Check). z ≡ after c k) e f

pub after_refused : {c : Check} {r : Refusal} (k : Check) → c ≡ Err r → Err r ≡ after c k
after_refused {r = r} k e = subst⁻¹ (λ (c : Check). Err r ≡ after c k) e refl

-- three lists of tests, one behind another: it does not matter which two are taken together
pub after_after : (c d k : Check) → after (after c d) k ≡ after c (after d k)
after_after (Ok tt) d k = refl
after_after (Err r) d k = refl

-- one turn of a loop that tests each place: where the tests from a place on amount to a, a failed one says that a is false, and a passed
-- one is taken away
pub turn_failed : {w a : Bool} (t k : Bool) → w ≡ (t && k) → w ≡ a → t ≡ false → false ≡ a
turn_failed t k u e f = sym (ap (λ (b : Bool). b && k) f) ∙ sym u ∙ e

pub turn_passed : {w a : Bool} (t k : Bool) → w ≡ (t && k) → w ≡ a → t ≡ true → k ≡ a
turn_passed t k u e f = sym (ap (λ (b : Bool). b && k) f) ∙ sym u ∙ e
