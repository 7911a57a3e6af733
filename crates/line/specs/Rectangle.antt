-- A rectangle of cells is given by two opposite corners a and b, in either order. Its lines are its rows, or else its columns.
use Rattle.std.specs.Prelude.{ℕ, ◌+◌, ◌-◌, ◌*◌, ◌%◌, ◌≤◌, min, max, cond, ◌==◌, nat_le}
use Rattle.grid.specs.declared.Cell.{Cell}
use Rattle.grid.specs.Panel.{cell, dist}
use Rattle.line.specs.declared.Along.{Along}
use Rattle.line.specs.declared.Along.TheVariants.{Rows, Columns}

-- c lies in the rectangle
pub record Inside (a b c : Cell) : Type 0 where
  pub left : min a.x b.x ≤ c.x
  pub right : c.x ≤ max a.x b.x
  pub top : min a.y b.y ≤ c.y
  pub bottom : c.y ≤ max a.y b.y

-- how many cells it has
unfoldable pub cells_between : Cell → Cell → ℕ
cells_between a b = (dist a.x b.x + 1) * (dist a.y b.y + 1)

-- k steps from p towards q
unfoldable pub ahead : ℕ → ℕ → ℕ → ℕ
ahead p q k = cond (nat_le p q) (p + k) (p - k)

-- where k lines there and back between p and q end that begin at p: at p if k is even
unfoldable pub turning : ℕ → ℕ → ℕ → ℕ
turning k p q = cond (k % 2 == 0) p q

-- where all rows, or all columns, there and back from the corner a end
unfoldable pub sweep_end : Along → Cell → Cell → Cell
sweep_end Rows a b = cell (turning (dist a.y b.y + 1) a.x b.x) b.y
sweep_end Columns a b = cell b.x (turning (dist a.x b.x + 1) a.y b.y)
