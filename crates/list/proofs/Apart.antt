-- How far two coordinates are apart, by a signed difference and its square; and the test of one step, by the squares in x and in y.
use Prim.Native.Nat.{ℕ, zero, suc, ◌+◌, ◌*◌, ◌≤◌, ◌<◌}
use native.Mathlib.Nat.{mul-le-mul, le-mul_of_pos_right}
use native.Mathlib.Omega.{arith}
use mathlib.Core.Path.{◌≡◌, refl, sym, ◌∙◌}
use lib.Dec.{eqb, ltb}
use lib.IntN.{ℤ, pos, negsuc, nat_abs, ◌-ℤ◌, ◌*ℤ◌}
use borrow.Author.Tests.{ltb-true, ltb-false, ne_eqb}
use Rattle.grid.specs.declared.Cell.{Cell}
use Rattle.grid.specs.Panel.{dist, apart, neighbours}
use Rattle.grid.proofs.Tests.{both_branches}
use Rattle.list.specs.List.{squared_distance}

-- ---- the difference and its square

-- the difference is the distance but for its sign
pub difference_size : (a b : ℕ) → nat_abs (pos a -ℤ pos b) ≡ dist a b
unfolding dist
difference_size a zero = omega arith
difference_size a (suc b) =
    both_branches (λ (z : ℤ). nat_abs z ≡ dist a (suc b)) (ltb a (suc b)) _ _ (λ t. omega (arith, ltb-true)) (λ t. omega (arith, ltb-false))

-- the square has no sign
pub square : (z : ℤ) → z *ℤ z ≡ pos (nat_abs z * nat_abs z)
square (pos n) = refl
square (negsuc n) = refl

-- of two bytes
module _ {a b : ℕ} (p : a < 256) (q : b < 256) where
  pub near : dist a b ≤ 255
  unfolding dist
  near = omega arith

  pub square_small : dist a b * dist a b ≤ 65025
  square_small = mul-le-mul near near

-- ---- one step

at_most_square : (d : ℕ) → d ≤ d * d
at_most_square zero = omega arith
at_most_square (suc d) = le-mul_of_pos_right (suc d) (omega arith)

-- where two numbers add up to 2 or more, so do their squares
neither_one : (d e : ℕ) → 2 ≤ d + e → eqb (d * d + e * e) 1 ≡ eqb (d + e) 1
neither_one d e h =
    ne_eqb (d * d + e * e) 1 (λ q. omega (arith, at_most_square d, at_most_square e)) ∙ sym (ne_eqb (d + e) 1 (λ q. omega arith))

-- two numbers add up to 1 exactly if their squares do
squares_one : (d e : ℕ) → eqb (d * d + e * e) 1 ≡ eqb (d + e) 1
squares_one zero zero = refl
squares_one zero (suc zero) = refl
squares_one zero (suc (suc e)) = neither_one zero (suc (suc e)) (omega arith)
squares_one (suc zero) zero = refl
squares_one (suc zero) (suc e) = neither_one (suc zero) (suc e) (omega arith)
squares_one (suc (suc d)) e = neither_one (suc (suc d)) e (omega arith)

pub step_by_squares : (a b : Cell) → eqb (squared_distance a b) 1 ≡ neighbours a b
unfolding apart
step_by_squares a b = squares_one (dist a.x b.x) (dist a.y b.y)
