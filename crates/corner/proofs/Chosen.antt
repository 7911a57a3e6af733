-- When lines may go first: the cells that they have, and those of what remains, make the count; and what is then known of both.
use Prim.Native.Nat.{ℕ, ◌+◌, ◌*◌, ◌%◌, ◌≤◌, ◌<◌}
use mathlib.Core.Path.{◌≡◌}
use mathlib.Core.List.{reverse}
use Rattle.grid.specs.declared.Cell.{Cell}
use Rattle.grid.specs.Panel.{dist, Neighbours}
use Rattle.line.specs.declared.Along.{Along}
use Rattle.line.specs.declared.Along.TheVariants.{Rows, Columns}
use Rattle.line.specs.Rectangle.{Inside, cells_between, sweep_end}
use Rattle.line.specs.Sweep.{sweep}
use Rattle.corner.specs.declared.Peeled.{Peeled}
use Rattle.corner.specs.Corner.{corner_count, track_count}

-- the target is dx cells from where k lines of w cells there and back begin, and ex from where they end
pub data Turned (k w dx ex : ℕ) : Type 0 where
  even : k % 2 ≡ 0 → ex ≡ dx → Turned k w dx ex
  odd : k % 2 ≡ 1 → dx + ex + 1 ≡ w → Turned k w dx ex

-- k rows of w cells may go first: the target is in none of them, and their cells and the count of what remains add up
pub record First (k w h dx dy : ℕ) : Type 0 where
  pub some : 1 ≤ k
  pub far : k ≤ dy
  pub counts : (h' ex ey : ℕ) → h ≡ h' + k → Turned k w dx ex → dy ≡ ey + k → corner_count w h dx dy ≡ w * k + corner_count w h' ex ey

-- rows, or else columns, which are the rows of the turned rectangle
abbrev pub GoFirst : Along → ℕ → ℕ → ℕ → ℕ → ℕ → Type 0
GoFirst Rows k w h dx dy = First k w h dx dy
GoFirst Columns k w h dx dy = First k h w dy dx

-- lines and rest lie in the rectangle and have no cell in common, the rest begins beside the lines' end, and the cells add up; from their end the lines
-- have the same cells, the last one first
pub record Peel (a b t : Cell) (r : Peeled) : Type 0 where
  pub size : r.cells.0 ≡ cells_between a r.far
  pub end : r.end ≡ sweep_end r.along a r.far
  pub back : sweep r.along r.end r.home ≡ reverse (sweep r.along a r.far)
  pub lines : (d : Cell) → Inside a r.far d → Inside a b d
  pub same : (d : Cell) → Inside r.end r.home d → Inside a r.far d
  pub rest : (d : Cell) → Inside r.corner r.opposite d → Inside a b d
  pub apart : (d : Cell) → Inside a r.far d → Inside r.corner r.opposite d → ⊥
  pub beside : Neighbours r.end r.corner
  pub target : Inside r.corner r.opposite t
  pub counts : track_count a b t ≡ r.cells.0 + track_count r.corner r.opposite t
  pub less : dist r.corner.x r.opposite.x + dist r.corner.y r.opposite.y < dist a.x b.x + dist a.y b.y
