-- What a function that draws asks for, and what it leaves in the buffer.
use Rattle.std.specs.Prelude.{ℕ, ◌*◌, ◌≤◌, List, ◌++◌, drop}
use Rattle.grid.specs.declared.Cell.{Cell}
use Rattle.grid.specs.Bytes.{bytes}
pub use Rattle.grid.specs.Bytes.{InBytes}

-- four numbers that are bytes
pub record Bytes (p q p' q' : ℕ) : Type 0 where
  pub left : p ≤ 255
  pub top : q ≤ 255
  pub right : p' ≤ 255
  pub bottom : q' ≤ 255

-- the buffer begins with k cells, and is the old one behind them
abbrev pub written : List Cell → ℕ → List ℕ → List ℕ
written l k old = bytes l ++ drop (2 * k) old
