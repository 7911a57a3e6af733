-- Some files read, computed: a layer of three cells, and what it is when a draw does not change direction, a byte follows or there is no
-- draw; a layer of one cell, and what it is with a draw. A wrong reading shows here by the cells that it finds.
use Prim.Native.Nat.{ℕ}
use mathlib.Core.Path.{◌≡◌, refl}
use mathlib.Core.List.{List, [], ◌∷◌, ◌++◌}
use Rattle.grid.specs.Panel.{panel, cell}
use Rattle.text.specs.Ascii.{ascii}
use Rattle.gerber.specs.Layer.{head_of, straight}
use Rattle.gerber_trace.specs.Trace.{traced, plotted, towards}
use Rattle.gerber_trace.specs.Trace.Found.{none, cells}
use Rattle.gerber.specs.Layer.{plot_x, plot_y}

-- three cells of 1 mm in a row, the draws as given
abbrev row : List ℕ → List ℕ
row draws = head_of (panel 3 1 1000) ++ (ascii "X500000Y500000D02*\n" ++ draws)

pub reads_row : traced (panel 3 1 1000) (row (ascii "X2500000Y500000D01*\nM02*\n")) ≡ cells (cell 1 1 ∷ cell 2 1 ∷ cell 3 1 ∷ [])
unfolding head_of plot_x plot_y plotted straight towards
reads_row = refl

pub refuses_straight_draw : traced (panel 3 1 1000) (row (ascii "X1500000Y500000D01*\nX2500000Y500000D01*\nM02*\n")) ≡ none
unfolding head_of plot_x plot_y plotted straight towards
refuses_straight_draw = refl

pub refuses_byte_behind : traced (panel 3 1 1000) (row (ascii "X2500000Y500000D01*\nM02*\n\n")) ≡ none
unfolding head_of plot_x plot_y plotted straight towards
refuses_byte_behind = refl

pub refuses_move_alone : traced (panel 3 1 1000) (row (ascii "M02*\n")) ≡ none
unfolding head_of plot_x plot_y plotted straight towards
refuses_move_alone = refl

-- a flash at the middle one of them, the lines behind it as given
abbrev spot : List ℕ → List ℕ
spot lines = head_of (panel 3 1 1000) ++ (ascii "X1500000Y500000D03*\n" ++ lines)

pub reads_spot : traced (panel 3 1 1000) (spot (ascii "M02*\n")) ≡ cells (cell 2 1 ∷ [])
unfolding head_of plot_x plot_y plotted straight towards
reads_spot = refl

pub refuses_draw_behind_flash : traced (panel 3 1 1000) (spot (ascii "X2500000Y500000D01*\nM02*\n")) ≡ none
unfolding head_of plot_x plot_y plotted straight towards
refuses_draw_behind_flash = refl
