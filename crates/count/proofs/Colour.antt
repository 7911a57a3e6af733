-- Colours alternate along a walk, so its length and its ends say how many of its cells are black: 2 * black + 1 = length + black ends.
-- A panel of mn cells has mn / 2 black ones, rounded down: a column x of n rows has (n + (x + 1) % 2) / 2.
use Prim.Native.Nat.{ℕ, zero, suc, ◌+◌, ◌-◌, ◌*◌, ◌/◌, ◌%◌, ◌≤◌}
use mathlib.Core.Path.{◌≡◌, refl, ap, ◌∙◌}
use mathlib.Core.Logic.{◌≢◌, ◌↔◌}
use mathlib.Core.Bool.{Bool, true, false}
use mathlib.Core.List.{List, [], ◌∷◌}
use native.Mathlib.Omega.{arith}
use native.Mathlib.Nat.{mul-one}
use native.Mathlib.Decide.{ℕ_discrete}
use lib.ListN.{length}
use borrow.Author.Tests.{eqb-true, eqb-false}
use Rattle.grid.specs.declared.Panel.{Panel}
use Rattle.grid.specs.declared.Cell.{Cell}
use Rattle.grid.specs.Panel.{Neighbours, OnPanel, black, cell}
use Rattle.grid.specs.Track.{Walk, All, Once}
use Rattle.grid.proofs.Facts.{beside_is}
use Rattle.grid.proofs.Track.{all_map}
use Rattle.count.specs.Count.{area, odd}
use Rattle.count.specs.Longest.{weight, partial_sum, columns_weight, panel_weight, if_black, if_white, Closed}
use Rattle.count.proofs.Pigeon.{sum_both, pigeon, in_columns, at_most_area}

-- ---- the colour of a cell as a number

abbrev pub bit : Bool → ℕ
bit true = 1
bit false = 0

pub mod_bit : (k : ℕ) → k % 2 ≡ bit (odd k)
mod_bit k = go (odd k) refl
  where
    go : (b : Bool) → odd k ≡ b → k % 2 ≡ bit b
    go true e = eqb-true _ _ e
    go false e = let h : k % 2 ≢ 1 = eqb-false _ _ e in omega arith

pub is_odd : (k : ℕ) → odd k ≡ true → k % 2 ≡ 1
is_odd k e = mod_bit k ∙ ap bit e

pub is_even : (k : ℕ) → odd k ≡ false → k % 2 ≡ 0
is_even k e = mod_bit k ∙ ap bit e

pub black_bit : (c : Cell) → if_black c ≡ bit (black c)
unfolding if_black
black_bit c = mod_bit (c.x + c.y)

pub black_white : (c : Cell) → if_black c + if_white c ≡ 1
unfolding if_black if_white
black_white c = omega arith

-- in row 2 a cell is black if its x is odd
pub row_two : (c : Cell) → c.y ≡ 2 → if_black c ≡ c.x % 2
unfolding if_black
row_two c h = omega arith

-- ---- along a walk

step_parity : (a b c d : ℕ) → (a - c) + (c - a) + ((b - d) + (d - b)) ≡ 1 → (a + b) % 2 + (c + d) % 2 ≡ 1
step_parity a b c d h = omega arith

-- neighbours have different colours
pub alternate : {a b : Cell} → Neighbours a b → if_black a + if_black b ≡ 1
unfolding if_black
alternate {a} {b} h = step_parity a.x a.y b.x b.y (beside_is h)

-- how many black cells a track has, by its length and its ends
pub walk_black : {s t : Cell} {l : List Cell} → Walk s t l → 2 * weight if_black l + 1 ≡ length l + if_black s + if_black t
walk_black Walk.end = omega arith
walk_black (Walk.step n w) = omega (arith, alternate n, walk_black w)

-- the rest of its cells are white
pub list_colours : (l : List Cell) → weight if_black l + weight if_white l ≡ length l
list_colours [] = refl
list_colours (c ∷ l) = omega (arith, black_white c, list_colours l)

-- the number of cells is even exactly if the ends differ in colour
pub even_length : {s t : Cell} {l : List Cell} → Walk s t l → (length l % 2 ≡ 0) ↔ (if_black s ≢ if_black t)
even_length {s} {t} {l} w = go (length l) (if_black s) (if_black t) _ _ _ (black_white s) (black_white t) (walk_black w)
  where
    go : (k a b c d e : ℕ) → a + c ≡ 1 → b + d ≡ 1 → 2 * e + 1 ≡ k + a + b → (k % 2 ≡ 0) ↔ (a ≢ b)
    go k a b c d e p q r = omega arith

-- ---- on a panel

column_black : (x n : ℕ) → partial_sum (λ y. if_black (cell x y)) 0 n ≡ (n + (x + 1) % 2) / 2
unfolding if_black
column_black x zero = omega arith
column_black x (suc n) = omega (arith, column_black x n)

even_rows : (m h : ℕ) → columns_weight if_black 0 m (2 * h) ≡ m * h
unfolding columns_weight
even_rows zero h = omega arith
even_rows (suc m) h = omega (arith, column_black (0 + suc m) (2 * h), even_rows m h)

odd_rows : (m h : ℕ) → columns_weight if_black 0 m (2 * h + 1) ≡ m * h + m / 2
unfolding columns_weight
odd_rows zero h = omega arith
odd_rows (suc m) h = omega (arith, column_black (0 + suc m) (2 * h + 1), odd_rows m h)

pub columns_black : (m n : ℕ) → columns_weight if_black 0 m n ≡ m * n / 2
columns_black m n = elim (ℕ_discrete (n % 2) 0) [
  | yes e ↦ let h : n ≡ 2 * (n / 2) = omega arith in rw h (even_rows m (n / 2) ∙ even_half m (n / 2))
  | no e ↦ let h : n ≡ 2 * (n / 2) + 1 = omega arith in rw h (odd_rows m (n / 2) ∙ odd_half m (n / 2))
]
  where
    even_half : (m h : ℕ) → m * h ≡ m * (2 * h) / 2
    even_half m h = omega arith

    odd_half : (m h : ℕ) → m * h + m / 2 ≡ m * (2 * h + 1) / 2
    odd_half m h = omega arith

-- how many black cells a panel has
pub panel_black : (p : Panel) → panel_weight if_black p ≡ area p / 2
panel_black p = columns_black p.width p.height

-- the rest of its cells are white
pub panel_colours : (p : Panel) → panel_weight if_black p + panel_weight if_white p ≡ area p
unfolding columns_weight
panel_colours p = sum_both _ _ 0 p.width p.height (λ x. sum_both _ _ 0 p.height 1 (λ y. black_white (cell x y)) ∙ mul-one p.height)

-- a list without repeats on a panel has no more black cells than the panel
pub at_most_black : (p : Panel) {l : List Cell} → Once l → All (OnPanel p) l → weight if_black l ≤ area p / 2
at_most_black p o q = omega (arith, pigeon if_black 0 p.width p.height o (all_map (λ c. in_columns) q), panel_black p)

-- ---- closed tracks

-- a walk whose last cell is a neighbour of its first has an even number of cells
pub closed_even : {s t : Cell} {l : List Cell} → Walk s t l → Neighbours t s → length l % 2 ≡ 0
closed_even {s} {t} w n = (even_length w).1 (omega (arith, alternate n))

-- so a closed track has at most mn cells, or mn − 1 if mn is odd
pub closed_no_longer : (p : Panel) {s : Cell} {l : List Cell} → Closed p s l → length l ≤ area p / 2 * 2
closed_no_longer p {l = l} r = fits (length l) (area p) (closed_even r.track.walk r.closes) (at_most_area p r.track.once r.track.within)
  where
    fits : (k a : ℕ) → k % 2 ≡ 0 → k ≤ a → k ≤ a / 2 * 2
    fits k a e h = omega arith
