-- Parity as a Boolean. `odd` takes sums to `differ` and products to `&&`, so every claim on parities is a claim on a few Booleans, which a test
-- over all their values decides (`two` to `six`).
use Prim.Native.Nat.{ℕ, ◌+◌, ◌*◌, ◌/◌, ◌%◌}
use mathlib.Core.Path.{◌≡◌, refl, sym, ap, ◌∙◌}
use mathlib.Core.Bool.{Bool, true, false, cond, ◌&&◌, beq}
use native.Mathlib.Omega.{arith}
use lib.Dec.{eqb}
use borrow.Author.Tests.{eq-eqb, ne_eqb}
use Rattle.grid.specs.declared.Cell.{Cell}
use Rattle.grid.specs.Panel.{black, dist}
use Rattle.grid.proofs.Facts.{and_left, and_right}
use Rattle.count.specs.Count.{odd}
pub use Rattle.count.proofs.Colour.{bit, mod_bit, is_odd, is_even}
use Rattle.plan.specs.Plan.{differ}

-- ---- a test over all values

abbrev both : (Bool → Bool) → Bool
both f = f true && f false

abbrev both² : (Bool → Bool → Bool) → Bool
both² f = both (λ a. both (λ b. f a b))

for_both : (f : Bool → Bool) → both f ≡ true → (b : Bool) → f b ≡ true
for_both f e true = and_left (f true) (f false) e
for_both f e false = and_right (f true) (f false) e

pub two : (f : Bool → Bool → Bool) → both² f ≡ true → (a b : Bool) → f a b ≡ true
two f h a b = for_both (λ b. f a b) (for_both (λ a. both (λ b. f a b)) h a) b

pub three : (f : Bool → Bool → Bool → Bool) → both² (λ a b. both (λ c. f a b c)) ≡ true → (a b c : Bool) → f a b c ≡ true
three f h a b c = for_both (λ c. f a b c) (two (λ a b. both (λ c. f a b c)) h a b) c

pub four : (f : Bool → Bool → Bool → Bool → Bool) → both² (λ a b. both² (λ c d. f a b c d)) ≡ true → (a b c d : Bool) → f a b c d ≡ true
four f h a b c d = two (λ c d. f a b c d) (two (λ a b. both² (λ c d. f a b c d)) h a b) c d

pub six : (f : Bool → Bool → Bool → Bool → Bool → Bool → Bool) → both² (λ a b. both² (λ c d. both² (λ e g. f a b c d e g))) ≡ true
    → (a b c d e g : Bool) → f a b c d e g ≡ true
six f h a b c d e g = two (λ e g. f a b c d e g) (four (λ a b c d. both² (λ e g. f a b c d e g)) h a b c d) e g

pub same : (a b : Bool) → beq a b ≡ true → a ≡ b
same true true e = refl
same true false e = sym e
same false true e = e
same false false e = refl

-- an implication, as a test
abbrev pub implies : Bool → Bool → Bool
implies a b = cond a b true

pub apply : {a b : Bool} → implies a b ≡ true → a ≡ true → b ≡ true
apply {a} {b} h e = sym (ap (λ (z : Bool). cond z b true) e) ∙ h

-- ---- odd numbers

pub odd_bit : (k : ℕ) (b : Bool) → k % 2 ≡ bit b → odd k ≡ b
odd_bit k true e = eq-eqb (k % 2) 1 e
odd_bit k false e = ne_eqb (k % 2) 1 (λ (z : k % 2 ≡ 1). omega arith)

pub odd_yes : (k : ℕ) → k % 2 ≡ 1 → odd k ≡ true
odd_yes k e = odd_bit k true e

pub odd_no : (k : ℕ) → k % 2 ≡ 0 → odd k ≡ false
odd_no k e = odd_bit k false e

sum_bit : (a b : ℕ) (p q : Bool) → a % 2 ≡ bit p → b % 2 ≡ bit q → (a + b) % 2 ≡ bit (differ p q)
sum_bit a b true true e f = omega arith
sum_bit a b true false e f = omega arith
sum_bit a b false true e f = omega arith
sum_bit a b false false e f = omega arith

pub odd_sum : (a b : ℕ) → odd (a + b) ≡ differ (odd a) (odd b)
odd_sum a b = odd_bit (a + b) (differ (odd a) (odd b)) (sum_bit a b (odd a) (odd b) (mod_bit a) (mod_bit b))

times : (a b r : ℕ) → a % 2 ≡ r → a * b ≡ 2 * (a / 2 * b) + r * b
times a b r e = ap (λ (z : ℕ). z * b) (let h : a ≡ 2 * (a / 2) + r = omega arith in h) ∙ (omega arith)

product_bit : (a b : ℕ) (p q : Bool) → a % 2 ≡ bit p → b % 2 ≡ bit q → (a * b) % 2 ≡ bit (p && q)
product_bit a b true q e f = let h = times a b 1 e in (let g : (a * b) % 2 ≡ b % 2 = omega arith in g ∙ f)
product_bit a b false q e f = let h = times a b 0 e in omega arith

pub odd_product : (a b : ℕ) → odd (a * b) ≡ (odd a && odd b)
odd_product a b = odd_bit (a * b) (odd a && odd b) (product_bit a b (odd a) (odd b) (mod_bit a) (mod_bit b))

-- a number that adds up with another to c
pub odd_rest : (a b c : ℕ) → a + b ≡ c → odd a ≡ differ (odd c) (odd b)
odd_rest a b c e = odd_bit a (differ (odd c) (odd b)) (go (odd c) (odd b) (mod_bit c) (mod_bit b))
  where
    go : (p q : Bool) → c % 2 ≡ bit p → b % 2 ≡ bit q → a % 2 ≡ bit (differ p q)
    go true true f g = omega arith
    go true false f g = omega arith
    go false true f g = omega arith
    go false false f g = omega arith

dist_mod : (a b : ℕ) → dist a b % 2 ≡ (a + b) % 2
unfolding dist
dist_mod a b = omega arith

pub odd_dist : (a b : ℕ) → odd (dist a b) ≡ differ (odd a) (odd b)
odd_dist a b = ap (λ (k : ℕ). eqb k 1) (dist_mod a b) ∙ odd_sum a b

-- the colour of a cell, by its column and its row
pub colour : (c : Cell) → black c ≡ differ (odd c.x) (odd c.y)
colour c = odd_sum c.x c.y
