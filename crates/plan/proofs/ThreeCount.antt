-- The count on a panel of three rows, by parities alone. Where m is even, s black and t white, F3 decides between all cells (`whole_three`) and all
-- but two; that and every other case is one formula, the loss of splits and zigzags (`lost_three`).
use Prim.Native.Nat.{ℕ, ◌+◌, ◌*◌, ◌%◌, ◌≤◌}
use mathlib.Core.Path.{◌≡◌, refl, ap, ◌∙◌}
use mathlib.Core.Logic.{◌⊎◌, inl, inr, dite}
use mathlib.Core.Bool.{Bool, true, false, not, ◌&&◌, ◌||◌}
use native.Mathlib.Omega.{arith}
use native.Mathlib.Decide.{ℕ_discrete}
use lib.Dec.{leb, eqb}
use borrow.Author.Tests.{eq-eqb, ne_eqb, le-leb, lt-leb}
use Rattle.grid.specs.declared.Panel.{Panel}
use Rattle.grid.specs.declared.Cell.{Cell}
use Rattle.grid.specs.Panel.{black}
use Rattle.grid.proofs.Facts.{and_both}
use Rattle.count.specs.Count.{area, odd, f1, f2, f3}
use Rattle.count.proofs.Laws.{not_f1, not_f2}
use Rattle.plan.proofs.Cases.{or_right}
use Rattle.plan.proofs.Parity.{odd_yes, odd_no}
use Rattle.plan.proofs.Terminals.{Critical}
use Rattle.plan.proofs.Decided.{decided_count, decided_odd, decided_even, decided_f3}

-- far enough apart for F3: as a fact and as the test
abbrev pub Far : Cell → Cell → Type 0
Far s t = (s.x + 2 ≤ t.x) ⊎ ((s.x + 1 ≡ t.x) × (s.y ≡ 2) × (t.y ≡ 2))

abbrev far : Cell → Cell → Bool
far s t = leb (s.x + 2) t.x || (eqb (s.x + 1) t.x && (eqb s.y 2 && eqb t.y 2))

-- 1 for a black s; and 1 for a t that is black, m being odd, or white, m being even
abbrev pub loss : ℕ → Cell → Cell → ℕ
loss m s t = (s.x + s.y) % 2 + (t.x + t.y + m + 1) % 2

-- ---- sums over plain numbers

pub parity : (k : ℕ) → (k % 2 ≡ 1) ⊎ (k % 2 ≡ 0)
parity k = dite (ℕ_discrete (k % 2) 1) (λ e. inl e) (λ e. inr (omega arith))

triple : (m : ℕ) → 3 * m % 2 ≡ m % 2
triple m = omega arith

loss_odd : (a b m : ℕ) → m % 2 ≡ 1 → a % 2 + (b + m + 1) % 2 ≡ a % 2 + b % 2
loss_odd a b m e = omega arith

loss_white : (a b m : ℕ) → m % 2 ≡ 0 → a % 2 ≡ 0 → a % 2 + (b + m + 1) % 2 ≡ (a + b + 1) % 2
loss_white a b m e f = omega arith

loss_black : (a b m : ℕ) → m % 2 ≡ 0 → a % 2 ≡ 1 → b % 2 ≡ 1 → a % 2 + (b + m + 1) % 2 ≡ (a + b + 1) % 2
loss_black a b m e f g = omega arith

loss_two : (a b m : ℕ) → m % 2 ≡ 0 → a % 2 ≡ 1 → b % 2 ≡ 0 → a % 2 + (b + m + 1) % 2 ≡ 2
loss_two a b m e f g = omega arith

lossless : (k a b c : ℕ) → a % 2 ≡ 1 → b % 2 ≡ 0 → k + (a + b + 1) % 2 ≡ c → k ≡ c
lossless k a b c e f h = omega arith

-- ---- F3

far_yes : (s t : Cell) → Far s t → far s t ≡ true
far_yes s t (inl h) = ap (λ (b : Bool). b || (eqb (s.x + 1) t.x && (eqb s.y 2 && eqb t.y 2))) (le-leb _ _ h)
far_yes s t (inr h) =
    or_right (leb (s.x + 2) t.x) (and_both (eq-eqb _ _ h.0) (and_both (eq-eqb _ _ h.1) (eq-eqb _ _ h.2)))

far_no : (s t : Cell) → t.x ≤ s.x + 1 → (s.x + 1 ≡ t.x → s.y ≡ 2 → ⊥) → far s t ≡ false
far_no s t h n = λ i. lt-leb (s.x + 2) t.x (omega (arith, h)) i || next i
  where
    next : (eqb (s.x + 1) t.x && (eqb s.y 2 && eqb t.y 2)) ≡ false
    next =
        dite (ℕ_discrete (s.x + 1) t.x)
        (λ e. λ i. eq-eqb (s.x + 1) t.x e i && (ne_eqb s.y 2 (n e) i && eqb t.y 2))
        (λ e. λ i. ne_eqb (s.x + 1) t.x e i && (eqb s.y 2 && eqb t.y 2))

module _ (p : Panel) (s t : Cell) (high : p.height ≡ 3) (wide : 3 ≤ p.width) where
  f3_is : {o b w f : Bool} → odd p.width ≡ o → black s ≡ b → black t ≡ w → far s t ≡ f → f3 p s t ≡ (not o && (b && (not w && f)))
  unfolding f3
  f3_is eo eb ew ef = λ i. eq-eqb p.height 3 high i && (not (eo i) && (eb i && (not (ew i) && ef i)))

  -- ---- the count

  no1 : f1 p s t ≡ false
  no1 = not_f1 p s t (λ (z : p.height ≡ 1). omega arith)

  no2 : f2 p s t ≡ false
  no2 = not_f2 p s t (λ (z : p.height ≡ 2). omega arith)

  area_three : area p ≡ 3 * p.width
  area_three = ap (λ (n : ℕ). p.width * n) high ∙ (omega arith)

  area_parity : {r : ℕ} → p.width % 2 ≡ r → area p % 2 ≡ r
  area_parity e = ap (λ (n : ℕ). n % 2) area_three ∙ triple p.width ∙ e

  large : {k : ℕ} → k ≤ 2 → k ≤ area p
  large h = omega (arith, area_three)

  -- one of the laws of the count on more than two rows, its loss written in another way
  by_law : {l r : ℕ} → r ≡ l → decided_count p s t + l ≡ area p → decided_count p s t + r ≡ 3 * p.width
  by_law e h = ap (λ (n : ℕ). decided_count p s t + n) e ∙ h ∙ area_three

  by_even : p.width % 2 ≡ 0 → f3 p s t ≡ false → decided_count p s t + (s.x + s.y + (t.x + t.y) + 1) % 2 ≡ area p
  by_even e f = decided_even p s t no1 no2 (area_parity e) f (large (omega arith))

  pub lost_three : (Critical p.width s t → Far s t) → decided_count p s t + loss p.width s t ≡ 3 * p.width
  lost_three apart = go (parity m) (parity a) (parity b)
    where
      m : ℕ
      m = p.width

      a : ℕ
      a = s.x + s.y

      b : ℕ
      b = t.x + t.y

      go : (m % 2 ≡ 1) ⊎ (m % 2 ≡ 0) → (a % 2 ≡ 1) ⊎ (a % 2 ≡ 0) → (b % 2 ≡ 1) ⊎ (b % 2 ≡ 0) → decided_count p s t + loss m s t ≡ 3 * m
      go (inl em) ea eb =
          let f = f3_is (odd_yes m em) refl refl refl in
          by_law (loss_odd a b m em) (decided_odd p s t no1 no2 (area_parity em) f (large (omega arith)))
      go (inr em) (inr ea) eb = by_law (loss_white a b m em ea) (by_even em (f3_is (odd_no m em) (odd_no a ea) refl refl))
      go (inr em) (inl ea) (inl eb) = by_law (loss_black a b m em ea eb) (by_even em (f3_is (odd_no m em) (odd_yes a ea) (odd_yes b eb) refl))
      go (inr em) (inl ea) (inr eb) =
          let f = f3_is (odd_no m em) (odd_yes a ea) (odd_no b eb) (far_yes s t (apart (record { even = em; dark = ea; light = eb }))) in
          by_law (loss_two a b m em ea eb) (decided_f3 p s t no1 no2 (area_parity em) (odd_yes a ea) (odd_no b eb) f (large (omega arith)))

  pub whole_three : Critical p.width s t → t.x ≤ s.x + 1 → (s.x + 1 ≡ t.x → s.y ≡ 2 → ⊥) → decided_count p s t ≡ 3 * p.width
  whole_three c near n =
      let m = odd_no p.width c.even in
      let a = odd_yes (s.x + s.y) c.dark in
      let b = odd_no (t.x + t.y) c.light in
      lossless _ (s.x + s.y) (t.x + t.y) _ c.dark c.light (by_law refl (by_even c.even (f3_is m a b (far_no s t near n))))
