-- What some lists leave, computed for every pitch. A wrong definition shows here by its numbers.
use Prim.Native.Nat.{ℕ}
use mathlib.Core.Path.{◌≡◌, refl}
use mathlib.Core.List.{List, [], ◌∷◌}
use Rattle.grid.specs.declared.Cell.{Cell}
use Rattle.grid.specs.Panel.{panel, cell}
use Rattle.cold.specs.Cold.{uncovered}

-- round the edge of 3 by 3, from a corner to a neighbour: class 4, mn odd
abbrev round : List Cell
round = cell 1 1 ∷ cell 1 2 ∷ cell 1 3 ∷ cell 2 3 ∷ cell 3 3 ∷ cell 3 2 ∷ cell 3 1 ∷ cell 2 1 ∷ []

-- the same without its first cell, between black cells: class 5, mn odd
abbrev parted : List Cell
parted = cell 1 2 ∷ cell 1 3 ∷ cell 2 3 ∷ cell 3 3 ∷ cell 3 2 ∷ cell 3 1 ∷ cell 2 1 ∷ []

-- one cell; two, in reading order; and of a list of one cell the rows from the top, each from the left
pub uncovered_shown : (q : ℕ)
    → (uncovered (panel 3 3 q) round ≡ cell 2 2 ∷ [])
    × (uncovered (panel 3 3 q) parted ≡ cell 1 1 ∷ cell 2 2 ∷ [])
    × (uncovered (panel 3 2 q) (cell 2 1 ∷ []) ≡ cell 1 1 ∷ cell 3 1 ∷ cell 1 2 ∷ cell 2 2 ∷ cell 3 2 ∷ [])
uncovered_shown q = (refl, refl, refl)
