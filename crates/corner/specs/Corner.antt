-- A corner track runs from the corner a of a rectangle, whose opposite corner is b, to a cell t of it.
use Rattle.std.specs.Prelude.{ℕ, ◌+◌, ◌-◌, ◌*◌, ◌%◌, cond, eqb}
use Rattle.grid.specs.declared.Cell.{Cell}
use Rattle.grid.specs.Panel.{dist}
pub use Rattle.line.specs.Rectangle.{Inside}

-- how many cells a corner track has in w columns and h rows, its target dx columns and dy rows from its corner
unfoldable pub corner_count : ℕ → ℕ → ℕ → ℕ → ℕ
corner_count w h dx dy =
    cond (eqb (dx + dy) 0) 1
    (cond (eqb h 1) (dx + 1)
    (cond (eqb w 1) (dy + 1)
    (w * h - 1 + (w * h + (dx + dy)) % 2)))

-- the same, by the rectangle's corners and the target
unfoldable pub track_count : Cell → Cell → Cell → ℕ
track_count a b t = corner_count (dist a.x b.x + 1) (dist a.y b.y + 1) (dist a.x t.x) (dist a.y t.y)
