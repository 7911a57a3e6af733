-- Computed: the detours on both sides of a step in each direction, presses of them, and edits that cannot be made. A wrong definition shows here.
use mathlib.Core.Path.{◌≡◌, refl}
use mathlib.Core.Bool.{Bool, true, false}
use mathlib.Core.List.{List, [], ◌∷◌}
use Rattle.grid.specs.declared.Cell.{Cell}
use Rattle.grid.specs.Panel.{panel, cell, apart, dist}
use Rattle.detour.specs.declared.Side.{Side}
use Rattle.detour.specs.declared.Side.TheVariants.{Left, Right}
use Rattle.detour.specs.declared.Edit.{Edit}
use Rattle.detour.specs.Detour.{is_detour, bulge_at, press_at, edited, can_edit, opposite}

-- on a panel of 4 by 4
abbrev can : Edit → List Cell → Bool
can e l = can_edit (panel 4 4 4000) e l

-- ---- a step in each direction

abbrev rightward : List Cell
rightward = cell 2 2 ∷ cell 3 2 ∷ []

abbrev leftward : List Cell
leftward = cell 3 2 ∷ cell 2 2 ∷ []

abbrev upward : List Cell
upward = cell 2 3 ∷ cell 2 2 ∷ []

abbrev downward : List Cell
downward = cell 2 2 ∷ cell 2 3 ∷ []

-- left of a step that goes right is up, of one that goes left down, of one that goes up left, of one that goes down right
pub left_shown : (edited (bulge_at 1 Left) rightward ≡ cell 2 2 ∷ cell 2 1 ∷ cell 3 1 ∷ cell 3 2 ∷ [])
    × (edited (bulge_at 1 Left) leftward ≡ cell 3 2 ∷ cell 3 3 ∷ cell 2 3 ∷ cell 2 2 ∷ [])
    × (edited (bulge_at 1 Left) upward ≡ cell 2 3 ∷ cell 1 3 ∷ cell 1 2 ∷ cell 2 2 ∷ [])
    × (edited (bulge_at 1 Left) downward ≡ cell 2 2 ∷ cell 3 2 ∷ cell 3 3 ∷ cell 2 3 ∷ [])
left_shown = (refl, refl, refl, refl)

-- right of them is down, up, right, left
pub right_shown : (edited (bulge_at 1 Right) rightward ≡ cell 2 2 ∷ cell 2 3 ∷ cell 3 3 ∷ cell 3 2 ∷ [])
    × (edited (bulge_at 1 Right) leftward ≡ cell 3 2 ∷ cell 3 1 ∷ cell 2 1 ∷ cell 2 2 ∷ [])
    × (edited (bulge_at 1 Right) upward ≡ cell 2 3 ∷ cell 3 3 ∷ cell 3 2 ∷ cell 2 2 ∷ [])
    × (edited (bulge_at 1 Right) downward ≡ cell 2 2 ∷ cell 1 2 ∷ cell 1 3 ∷ cell 2 3 ∷ [])
right_shown = (refl, refl, refl, refl)

-- ---- presses

-- from (1, 2) to (4, 2)
abbrev level : List Cell
level = cell 1 2 ∷ cell 2 2 ∷ cell 3 2 ∷ cell 4 2 ∷ []

-- four cells in a line are no detour on either side, nor are two cells twice
pub line_shown : (is_detour Left 1 level ≡ false)
    × (is_detour Right 1 level ≡ false)
    × (is_detour Left 1 (cell 1 1 ∷ cell 2 1 ∷ cell 1 1 ∷ cell 2 1 ∷ []) ≡ false)
    × (is_detour Right 1 (cell 1 1 ∷ cell 2 1 ∷ cell 1 1 ∷ cell 2 1 ∷ []) ≡ false)
unfolding apart dist
line_shown = (refl, refl, refl, refl)

-- the press of a bulge of the first step, found in the list
abbrev found : Side → List Cell → Edit
found side l = press_at 1 (edited (bulge_at 1 side) l)

-- it is on the side of the bulge
pub found_shown : (found Left rightward ≡ opposite (bulge_at 1 Left)) × (found Right rightward ≡ opposite (bulge_at 1 Right))
    × (found Left leftward ≡ opposite (bulge_at 1 Left)) × (found Right leftward ≡ opposite (bulge_at 1 Right))
    × (found Left upward ≡ opposite (bulge_at 1 Left)) × (found Right upward ≡ opposite (bulge_at 1 Right))
    × (found Left downward ≡ opposite (bulge_at 1 Left)) × (found Right downward ≡ opposite (bulge_at 1 Right))
unfolding apart dist
found_shown = (refl, refl, refl, refl, refl, refl, refl, refl)

-- the same, with a detour left of the way, upward, at place 2
abbrev bulged_up : List Cell
bulged_up = cell 1 2 ∷ cell 2 2 ∷ cell 2 1 ∷ cell 3 1 ∷ cell 3 2 ∷ cell 4 2 ∷ []

-- the press takes it out, the bulge puts it in again; on the wrong side, and at another place, there is nothing to press
pub press_shown : (can (press_at 2 bulged_up) bulged_up ≡ true)
    × (edited (press_at 2 bulged_up) bulged_up ≡ level)
    × (edited (bulge_at 2 Left) level ≡ bulged_up)
    × (can (opposite (bulge_at 2 Right)) bulged_up ≡ false)
    × (can (press_at 1 bulged_up) bulged_up ≡ false)
unfolding apart dist
press_shown = (refl, refl, refl, refl, refl)

-- ---- bulges that cannot be made

-- a bulge can begin at each cell but the last; place 0 is none
pub place_shown : (can (bulge_at 0 Left) level ≡ false)
    × (can (bulge_at 1 Left) level ≡ true)
    × (can (bulge_at 3 Left) level ≡ true)
    × (can (bulge_at 4 Left) level ≡ false)
place_shown = (refl, refl, refl, refl)

-- over the upper, the left, the right and the lower edge of the panel; onto the track with the first cell, and with the second, where the other
-- side is free
pub free_shown : (can (bulge_at 1 Left) (cell 1 1 ∷ cell 2 1 ∷ []) ≡ false)
    × (can (bulge_at 1 Right) (cell 1 1 ∷ cell 1 2 ∷ []) ≡ false)
    × (can (bulge_at 1 Right) (cell 4 4 ∷ cell 4 3 ∷ []) ≡ false)
    × (can (bulge_at 1 Left) (cell 4 4 ∷ cell 3 4 ∷ []) ≡ false)
    × (can (bulge_at 5 Left) bulged_up ≡ false)
    × (can (bulge_at 5 Right) bulged_up ≡ true)
    × (can (bulge_at 1 Left) bulged_up ≡ false)
    × (can (bulge_at 1 Right) bulged_up ≡ true)
free_shown = (refl, refl, refl, refl, refl, refl, refl, refl)
