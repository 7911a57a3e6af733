-- No track is longer: the statement; longest tracks; closed tracks; and how the cells of a list and of a panel are counted, by colour or by any
-- weight.
use Rattle.std.specs.Prelude.{ℕ, zero, suc, ◌+◌, ◌%◌, ◌≤◌, ◌≡◌, List, [], ◌∷◌, length}
use Rattle.grid.specs.declared.Panel.{Panel}
use Rattle.grid.specs.declared.Cell.{Cell}
use Rattle.grid.specs.Panel.{Neighbours, cell}
use Rattle.grid.specs.Track.{Track}

-- every list of cells that is a track from s to t, however made, has at most k cells
abbrev pub NoLonger : Panel → Cell → Cell → ℕ → Type 0
NoLonger p s t k = (l : List Cell) → Track p s t l → length l ≤ k

-- a list of k cells is a track from s to t, and no track is longer
pub record Longest (p : Panel) (s t : Cell) (k : ℕ) (l : List Cell) : Type 0 where
  pub size : length l ≡ k
  pub track : Track p s t l
  pub none_longer : NoLonger p s t k

-- a closed track from s: a track whose last cell is a neighbour of its first, 4 cells or more (a cycle of the grid graph)
pub record Closed (p : Panel) (s : Cell) (l : List Cell) : Type 0 where
  pub last : Cell
  pub track : Track p s last l
  pub closes : Neighbours last s
  pub four : 4 ≤ length l

-- the weights of a list's cells, added up
abbrev pub weight : (Cell → ℕ) → List Cell → ℕ
weight w [] = 0
weight w (c ∷ l) = w c + weight w l

-- f (a + 1) + f (a + 2) + … + f (a + k)
abbrev pub partial_sum : (ℕ → ℕ) → ℕ → ℕ → ℕ
partial_sum f a zero = 0
partial_sum f a (suc k) = f (a + suc k) + partial_sum f a k

-- the weights of the cells in the columns a + 1 to a + k of n rows, added up
unfoldable pub columns_weight : (Cell → ℕ) → ℕ → ℕ → ℕ → ℕ
columns_weight w a k n = partial_sum (λ x. partial_sum (λ y. w (cell x y)) 0 n) a k

-- the weights of all cells of a panel, added up
abbrev pub panel_weight : (Cell → ℕ) → Panel → ℕ
panel_weight w p = columns_weight w 0 p.width p.height

-- 1 for a black cell, 0 for a white one
unfoldable pub if_black : Cell → ℕ
if_black c = (c.x + c.y) % 2

-- 1 for a white cell, 0 for a black one
unfoldable pub if_white : Cell → ℕ
if_white c = (c.x + c.y + 1) % 2
