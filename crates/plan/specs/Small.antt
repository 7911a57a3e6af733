-- What the code that chooses and makes plans asks for, so that its sums fit.
use Rattle.std.specs.Prelude.{ℕ, ◌+◌, ◌≤◌}
use Rattle.grid.specs.declared.Cell.{Cell}
use Rattle.grid.specs.Panel.{max_side}

-- coordinates so small that no sum of them is too large; a mirrored coordinate stays so
pub record SmallCells (s t : Cell) : Type 0 where
  pub s_x : s.x ≤ max_side + 1
  pub s_y : s.y ≤ max_side + 1
  pub t_x : t.x ≤ max_side + 1
  pub t_y : t.y ≤ max_side + 1

-- sides and terminals so small
pub record SmallOrder (m n : ℕ) (s t : Cell) : Type 0 where
  pub wide : m ≤ max_side
  pub high : n ≤ max_side
  pub cells : SmallCells s t
