-- Document 02, R-9: a list of cells holds a repeat or a cell off the panel. A place is a cell's number in the list, from 0.
use Rattle.std.specs.Prelude.{ℕ, ◌<◌, ◌≡◌, List, length}
use Rattle.grid.specs.declared.Panel.{Panel}
use Rattle.grid.specs.declared.Cell.{Cell}
use Rattle.grid.specs.Panel.{OnPanel}
use Rattle.list.specs.List.{nth}

-- the cell at some place has the property
pub record Any (P : Cell → Type 0) (l : List Cell) : Type 0 where
  pub place : ℕ
  pub there : place < length l
  pub has : P (nth l place)

-- some cell is off the panel
abbrev pub HoldsCellOff : Panel → List Cell → Type 0
HoldsCellOff p l = Any (λ c. ¬ OnPanel p c) l

-- some cell stands twice: a later place has the cell of an earlier one
pub record HoldsRepeat (l : List Cell) : Type 0 where
  pub first : ℕ
  pub later : ℕ
  pub order : first < later
  pub there : later < length l
  pub same : nth l first ≡ nth l later
