-- The law of R-4: a list has 100 hundredths of a square for each cell, less 44 for each corner.
use Prim.Native.Nat.{◌+◌, ◌-◌, ◌*◌, ◌≤◌}
use native.Mathlib.Omega.{arith}
use mathlib.Core.Path.{◌≡◌, refl}
use mathlib.Core.Bool.{Bool, true, false, cond}
use mathlib.Core.List.{List, [], ◌∷◌}
use lib.ListN.{length}
use Rattle.grid.specs.declared.Cell.{Cell}
use Rattle.squares.specs.Squares.{corner_between, corners, corners_from, squares, squares_from}

-- a cell between two others counts 100 less 44 if it is a corner
one : (t : Bool) → cond t 56 100 + 44 * cond t 1 0 ≡ 100
one true = refl
one false = refl

counted_from : (a b : Cell) (l : List Cell) → squares_from a b l + 44 * corners_from a b l ≡ 100 + 100 * length l
counted_from a b [] = refl
counted_from a b (c ∷ l) = omega (arith, one (corner_between a c), counted_from b c l)

pub squares_counted : (l : List Cell) → squares l + 44 * corners l ≡ 100 * length l
squares_counted [] = refl
squares_counted (a ∷ []) = refl
squares_counted (a ∷ b ∷ l) = omega (arith, counted_from a b l)

-- a corner lies between two other cells
at_most_one : (t : Bool) → cond t 1 0 ≤ 1
at_most_one true = omega arith
at_most_one false = omega arith

few_from : (a b : Cell) (l : List Cell) → corners_from a b l ≤ length l
few_from a b [] = omega arith
few_from a b (c ∷ l) = omega (arith, at_most_one (corner_between a c), few_from b c l)

pub corners_few : (l : List Cell) → corners l ≤ length l - 2
corners_few [] = omega arith
corners_few (a ∷ []) = omega arith
corners_few (a ∷ b ∷ l) = omega (arith, few_from a b l)
