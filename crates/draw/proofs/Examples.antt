-- The tracks drawn for some orders, computed. A wrong definition, or one of another longest track, shows here by its numbers.
use mathlib.Core.Path.{◌≡◌, refl}
use mathlib.Core.List.{[], ◌∷◌}
use Rattle.grid.specs.Panel.{cell, dist}
use Rattle.grid.specs.Bytes.{bytes}
use Rattle.line.specs.Rectangle.{ahead, turning}
use Rattle.line.specs.Sweep.{sweep}
use Rattle.corner.specs.Cells.{chosen, peeled, corner_cells}
use Rattle.plan.specs.Plan.{two_rows, wide, plan_of}
use Rattle.table.specs.Table.{placing_from, placing, tabled}
use Rattle.draw.specs.Track.{drawn_track}

-- equal terminals; 2 by 2 between opposite corners, where the other way round is as long; a row of the table, where a corner track is as long
pub tracks_shown : (bytes (drawn_track 5 4 (cell 3 2) (cell 3 2)) ≡ 3 ∷ 2 ∷ [])
    × (bytes (drawn_track 2 2 (cell 1 1) (cell 2 2)) ≡ 1 ∷ 1 ∷ 1 ∷ 2 ∷ 2 ∷ 2 ∷ [])
    × (bytes (drawn_track 3 3 (cell 1 1) (cell 2 1)) ≡ 1 ∷ 1 ∷ 1 ∷ 2 ∷ 1 ∷ 3 ∷ 2 ∷ 3 ∷ 3 ∷ 3 ∷ 3 ∷ 2 ∷ 3 ∷ 1 ∷ 2 ∷ 1 ∷ [])
unfolding dist ahead turning sweep chosen peeled corner_cells two_rows wide plan_of placing_from placing tabled drawn_track
tracks_shown = (refl, refl, refl)
