-- The count of an order without its classes: for one and two rows as the first two lines say, and else the panel's cells less one for each black
-- terminal where their number is odd, less one for equal colours where it is even, F3 apart.
use Prim.Native.Nat.{ℕ, ◌+◌, ◌-◌, ◌*◌, ◌%◌, ◌≤◌, max}
use mathlib.Core.Path.{◌≡◌, refl, sym, ap, ◌∙◌}
use mathlib.Core.Bool.{Bool, true, false, not, cond, ◌&&◌, ◌||◌}
use native.Mathlib.Omega.{arith}
use Rattle.grid.specs.declared.Panel.{Panel}
use Rattle.grid.specs.declared.Cell.{Cell}
use Rattle.grid.specs.Panel.{black}
use Rattle.plan.proofs.Parity.{bit, mod_bit, odd_yes, odd_no}
use Rattle.count.specs.Count.{area, odd, f1, f2, f3, c2, c0, found, decided}

-- ---- the lines of the definition

-- the count that the lines give, for m not less than n and s not right of t
abbrev pub decided_count : Panel → Cell → Cell → ℕ
decided_count p s t = (decided p s t).count.0

-- what the first two lines say
abbrev line1 : Cell → Cell → ℕ
line1 s t = t.x - s.x + 1

abbrev line2 : Panel → Cell → Cell → ℕ
line2 p s t = max (s.x + t.x) (2 * p.width - (s.x + t.x) + 2)

-- the count, by which lines fit and what they say
chosen : Bool → Bool → Bool → Bool → ℕ → ℕ → ℕ → ℕ
chosen a b c d j k n = (cond a (found 1 j) (cond b (found 2 k) (cond c (found 5 (n - 2)) (cond d (found 3 n) (found 4 (n - 1)))))).count.0

module _ (p : Panel) (s t : Cell) where
  decided_chosen : decided_count p s t ≡ chosen (f1 p s t) (f2 p s t) (c2 p s t) (c0 p s t) (line1 s t) (line2 p s t) (area p)
  unfolding decided chosen
  decided_chosen = refl

  pub decided_one : f1 p s t ≡ true → decided_count p s t ≡ t.x - s.x + 1
  unfolding chosen
  decided_one e = decided_chosen ∙ (λ i. chosen (e i) (f2 p s t) (c2 p s t) (c0 p s t) (line1 s t) (line2 p s t) (area p))

  pub decided_two : f1 p s t ≡ false → f2 p s t ≡ true → decided_count p s t ≡ max (s.x + t.x) (2 * p.width - (s.x + t.x) + 2)
  unfolding chosen
  decided_two e f = decided_chosen ∙ (λ i. chosen (e i) (f i) (c2 p s t) (c0 p s t) (line1 s t) (line2 p s t) (area p))

-- what is left of a cells, by the parity of a, the colours of the terminals and F3
left : Bool → Bool → Bool → Bool → ℕ → ℕ
left o b w f a = cond ((o && (b && w)) || f) (a - 2) (cond (cond o (not b && not w) (cond b (not w) w)) a (a - 1))

left_odd : (b w : Bool) (a : ℕ) → 2 ≤ a → left true b w false a + (bit b + bit w) ≡ a
unfolding left
left_odd true true a h = omega arith
left_odd true false a h = omega arith
left_odd false true a h = omega arith
left_odd false false a h = omega arith

left_even : (b w : Bool) (a : ℕ) → 1 ≤ a → left false b w false a + (bit b + bit w + 1) % 2 ≡ a
unfolding left
left_even true true a h = omega arith
left_even true false a h = omega arith
left_even false true a h = omega arith
left_even false false a h = omega arith

left_f3 : (a : ℕ) → 2 ≤ a → left false true false true a + 2 ≡ a
unfolding left
left_f3 a h = omega arith

last_lines : (c d : Bool) (j k n : ℕ) → chosen false false c d j k n ≡ cond c (n - 2) (cond d n (n - 1))
unfolding chosen
last_lines true d j k n = refl
last_lines false true j k n = refl
last_lines false false j k n = refl

module _ (p : Panel) (s t : Cell) (no1 : f1 p s t ≡ false) (no2 : f2 p s t ≡ false) where
  decided_left : decided_count p s t ≡ left (odd (area p)) (black s) (black t) (f3 p s t) (area p)
  unfolding left c2 c0
  decided_left =
      decided_chosen p s t
      ∙ (λ i. chosen (no1 i) (no2 i) (c2 p s t) (c0 p s t) (line1 s t) (line2 p s t) (area p))
      ∙ last_lines (c2 p s t) (c0 p s t) _ _ (area p)

  pub decided_odd : area p % 2 ≡ 1 → f3 p s t ≡ false → 2 ≤ area p → decided_count p s t + ((s.x + s.y) % 2 + (t.x + t.y) % 2) ≡ area p
  decided_odd o n h =
      let q = decided_left ∙ (λ j. left (odd_yes (area p) o j) (black s) (black t) (n j) (area p)) in
      (λ i. q i + (mod_bit (s.x + s.y) i + mod_bit (t.x + t.y) i)) ∙ left_odd (black s) (black t) (area p) h

  pub decided_even : area p % 2 ≡ 0 → f3 p s t ≡ false → 1 ≤ area p → decided_count p s t + (s.x + s.y + (t.x + t.y) + 1) % 2 ≡ area p
  decided_even o n h =
      let q = decided_left ∙ (λ j. left (odd_no (area p) o j) (black s) (black t) (n j) (area p)) in
      let e = left_even (black s) (black t) (area p) h in
      sums (s.x + s.y) (t.x + t.y) (sym q) (sym (mod_bit (s.x + s.y))) (sym (mod_bit (t.x + t.y))) e
    where
      sums : {l d a b k : ℕ} (x y : ℕ) → l ≡ d → a ≡ x % 2 → b ≡ y % 2 → l + (a + b + 1) % 2 ≡ k → d + (x + y + 1) % 2 ≡ k
      sums x y q f g e = omega arith

  pub decided_f3 : area p % 2 ≡ 0 → black s ≡ true → black t ≡ false → f3 p s t ≡ true → 2 ≤ area p → decided_count p s t + 2 ≡ area p
  decided_f3 o b w f h =
      ap (λ (k : ℕ). k + 2) (decided_left ∙ (λ j. left (odd_no (area p) o j) (b j) (w j) (f j) (area p))) ∙ left_f3 (area p) h
