-- Document 02, R-10: the cells that a list leaves uncovered, which stay cold (vertices that the path misses), and how many of them are white and
-- how many black, by class.
use Rattle.std.specs.Prelude.{ℕ, ◌%◌, ◌≤◌, ◌≡◌, false, ◌≢◌}
use Rattle.std.proofs.Math.Bool.{Bool-discrete}
use mathlib.Core.List.{List, [], filter}
use Rattle.grid.specs.declared.Panel.{Panel}
use Rattle.grid.specs.declared.Cell.{Cell}
use Rattle.grid.specs.Panel.{area}
use Rattle.grid.specs.Reading.{reading}
use Rattle.count.specs.Order.{order_class}
use Rattle.count.specs.Longest.{weight, if_black, if_white}
use Rattle.list.specs.List.{among}

-- the cells of a panel that do not stand in the list, in reading order
abbrev pub uncovered : Panel → List Cell → List Cell
uncovered p l = filter (λ c. Bool-discrete (among c l) false) (reading p)

-- so many cells of a list are white and so many black; each is one or the other
pub record Colours (white black : ℕ) (l : List Cell) : Type 0 where
  pub whites : weight if_white l ≡ white
  pub blacks : weight if_black l ≡ black

-- one cell, of the colour opposite to the cell c's: white where c is black, black where c is white
abbrev pub OneOpposite : Cell → List Cell → Type 0
OneOpposite c l = Colours (if_black c) (if_white c) l

-- class 4 leaves one cell, of the colour opposite to the terminals where mn is even, white where mn is odd; class 5 leaves two white cells where
-- mn is odd, and one of each colour where it is even; class 3 leaves none
pub record ColdByClass (class mn : ℕ) (s t : Cell) (cold : List Cell) : Type 0 where
  pub four_even : class ≡ 4 → mn % 2 ≡ 0 → OneOpposite s cold × OneOpposite t cold
  pub four_odd : class ≡ 4 → mn % 2 ≡ 1 → Colours 1 0 cold
  pub five_odd : class ≡ 5 → mn % 2 ≡ 1 → Colours 2 0 cold
  pub five_even : class ≡ 5 → mn % 2 ≡ 0 → Colours 1 1 cold
  pub three : class ≡ 3 → cold ≡ []

-- the promise, for panels with both sides 3 or more and different terminals
abbrev pub StaysCold : Panel → Cell → Cell → List Cell → Type 0
StaysCold p s t l = 3 ≤ p.width → 3 ≤ p.height → s ≢ t → ColdByClass (order_class p s t) (area p) s t (uncovered p l)
