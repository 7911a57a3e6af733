-- Some values of the definitions, computed: where the upper left and the lower right cell are, d for four pitches, where the direction
-- stays, and two whole layers of one cell. A wrong definition shows here by its numbers.
use mathlib.Core.Path.{◌≡◌, refl}
use mathlib.Core.Bool.{true, false}
use mathlib.Core.List.{[], ◌∷◌, ◌++◌}
use Rattle.grid.specs.Panel.{panel, cell}
use Rattle.text.specs.Ascii.{ascii}
use Rattle.text.specs.Decimal.{decimal}
use Rattle.gerber.specs.Layer.{plot_x, plot_y, half_pitch, four_decimals, head_of, straight, turns_from, layer_of}

-- on 3 by 4 cells of 2.002 mm row 1 is on top: its centre is 7.007 mm above the lower edge, and the first column's 1.001 mm from the left
pub centres_shown : (plot_x (panel 3 4 2002) (cell 1 1) ≡ 1001000) × (plot_y (panel 3 4 2002) (cell 1 1) ≡ 7007000)
    × (plot_x (panel 3 4 2002) (cell 3 4) ≡ 5005000) × (plot_y (panel 3 4 2002) (cell 3 4) ≡ 1001000)
unfolding plot_x plot_y
centres_shown = (refl, refl, refl, refl)

pub diameters_shown : (four_decimals (half_pitch (panel 1 1 4000)) ≡ ascii "2.0000") × (four_decimals (half_pitch (panel 1 1 1001)) ≡ ascii "0.5005")
    × (four_decimals (half_pitch (panel 1 1 2002)) ≡ ascii "1.0010") × (four_decimals (half_pitch (panel 1 1 10000)) ≡ ascii "5.0000")
diameters_shown = (refl, refl, refl, refl)

-- straight on, a turn, and the way back
pub directions_shown : (straight (cell 1 1) (cell 2 1) (cell 3 1) ≡ true) × (straight (cell 1 1) (cell 2 1) (cell 2 2) ≡ false)
    × (straight (cell 1 1) (cell 2 1) (cell 1 1) ≡ false)
unfolding straight
directions_shown = (refl, refl, refl)

-- a list that goes on, turns, goes back and ends: drawn to are (3, 1), (3, 2), and (3, 1) where it ends
pub turns_shown : turns_from (cell 1 1) (cell 2 1) (cell 3 1 ∷ cell 3 2 ∷ cell 3 1 ∷ []) ≡ cell 3 1 ∷ cell 3 2 ∷ cell 3 1 ∷ []
unfolding straight
turns_shown = refl

-- one cell is one flash: the only cell of a panel, and the upper right one of 3 by 2 cells of 2.002 mm
pub spots_shown : (layer_of (panel 1 1 4000) (cell 1 1 ∷ []) ≡ ascii "%FSLAX46Y46*%\n%MOMM*%\n%ADD10C,2.0000*%\nD10*\nG01*\nX"
    ++ (decimal 2000000 ++ (ascii "Y" ++ (decimal 2000000 ++ ascii "D03*\nM02*\n"))))
    × (layer_of (panel 3 2 2002) (cell 3 1 ∷ []) ≡ ascii "%FSLAX46Y46*%\n%MOMM*%\n%ADD10C,1.0010*%\nD10*\nG01*\nX"
    ++ (decimal 5005000 ++ (ascii "Y" ++ (decimal 3003000 ++ ascii "D03*\nM02*\n"))))
unfolding head_of plot_x plot_y
spots_shown = (refl, refl)
