-- What drawing a corner track asks for. What it leaves in the buffer is `written`.
use Rattle.std.specs.Prelude.{ℕ, ◌*◌, ◌≤◌, List, length}
use Rattle.grid.specs.declared.Cell.{Cell}
use Rattle.corner.specs.Corner.{Inside, track_count}
pub use Rattle.line.specs.Drawn.{InBytes, written}

-- a rectangle of cells in bytes, and a target in it
pub record Fits (a b t : Cell) : Type 0 where
  pub corner : InBytes a
  pub opposite : InBytes b
  pub inside : Inside a b t

-- a rectangle of cells in bytes, a target in it, and room for the corner track
pub record Ready (a b t : Cell) (buf : List ℕ) : Type 0 where
  pub corner : InBytes a
  pub opposite : InBytes b
  pub inside : Inside a b t
  pub room : 2 * track_count a b t ≤ length buf
