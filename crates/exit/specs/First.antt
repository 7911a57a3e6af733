-- R-5 in the words of tracks, without class, count or search: what the theorem says of a cell that Exit gives, and of 12.
use Rattle.std.specs.Prelude.{◌≤◌, ◌<◌, ◌≡◌, ◌≢◌, ◌⊎◌, List, length}
use Rattle.grid.specs.declared.Panel.{Panel}
use Rattle.grid.specs.declared.Cell.{Cell}
use Rattle.grid.specs.declared.Cells.{Cells}
use Rattle.grid.specs.Panel.{OnPanel}
use Rattle.grid.specs.Track.{Track}

-- a cell of the panel that is not the entry, and to which some track has at least that many cells
pub record Exit (p : Panel) (s : Cell) (w : Cells) (c : Cell) : Type 0 where
  pub on : OnPanel p c
  pub other : c ≢ s
  pub cells : List Cell
  pub track : Track p s c cells
  pub enough : w.0 ≤ length cells

-- d is read before c: in a row above, or in the same row further left
abbrev pub Before : Cell → Cell → Type 0
Before d c = (d.y < c.y) ⊎ ((d.y ≡ c.y) × (d.x < c.x))

-- an exit, and no cell read before it is one
pub record FirstExit (p : Panel) (s : Cell) (w : Cells) (c : Cell) : Type 0 where
  pub exit : Exit p s w c
  pub none : (d : Cell) → Before d c → ¬ Exit p s w d
