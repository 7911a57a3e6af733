-- The squares of some lists, computed. A wrong definition shows here by its numbers.
use mathlib.Core.Path.{◌≡◌, refl}
use mathlib.Core.List.{[], ◌∷◌}
use Rattle.grid.specs.Panel.{cell}
use Rattle.squares.specs.Squares.{corner_between, squares}

-- the track from (1, 1) to (2, 1) on 2 by 2 cells; straight on; back the way it came, which is no corner
pub squares_shown : (squares (cell 1 1 ∷ cell 1 2 ∷ cell 2 2 ∷ cell 2 1 ∷ []) ≡ 312) × (squares (cell 2 1 ∷ cell 3 1 ∷ cell 4 1 ∷ []) ≡ 300)
    × (squares (cell 1 1 ∷ cell 2 1 ∷ cell 1 1 ∷ []) ≡ 300)
unfolding corner_between
squares_shown = (refl, refl, refl)
