-- What the functions that take lines off a corner track ask for, and the sizes that they measure. No promise of Draw rests on this file.
use Rattle.std.specs.Prelude.{ℕ, ◌+◌, ◌≤◌, ◌<◌, ◌≡◌}
use Rattle.grid.specs.declared.Cell.{Cell}
use Rattle.grid.specs.Panel.{dist}
use Rattle.line.specs.declared.Along.{Along}
use Rattle.line.specs.Along.{seen}
use Rattle.corner.specs.declared.Sizes.{Sizes}

-- the sizes of the rectangle of a and b, and how far t is from a
pub record Measured (a b t : Cell) (s : Sizes) : Type 0 where
  pub width : s.w ≡ dist a.x b.x + 1
  pub height : s.h ≡ dist a.y b.y + 1
  pub across : s.dx ≡ dist a.x t.x
  pub down : s.dy ≡ dist a.y t.y

-- columns and rows exchanged
abbrev pub turned_sizes : Sizes → Sizes
turned_sizes s = record { w = s.h; h = s.w; dx = s.dy; dy = s.dx }

-- two columns and two rows or more, and a target that is not the corner
pub record Open (w h dx dy : ℕ) : Type 0 where
  pub wide : 2 ≤ w
  pub high : 2 ≤ h
  pub across : dx < w
  pub down : dy < h
  pub away : 1 ≤ dx + dy

-- the first k rows, or else columns, of the rectangle of a and b from the corner a
pub record FirstLines (way : Along) (a b : Cell) (k : ℕ) : Type 0 where
  pub some : 1 ≤ k
  pub most : k ≤ dist (seen way a).y (seen way b).y
