-- Exit's answers for some panels, computed. A wrong definition shows here by its numbers.
use Rattle.std.specs.Prelude.{Ok, Err}
use mathlib.Core.Path.{◌≡◌, refl}
use Rattle.grid.specs.declared.Refusal.TheVariants.{NoExit}
use Rattle.grid.specs.Panel.{panel, cell}
use Rattle.count.specs.Count.{f1, f2, f3, c2, c0, decided, named, class_count}
use Rattle.exit.specs.Exit.{exit_of}

-- 2 by 2: both neighbours of the entry fit, and the one to the right is read first; 3 by 3: all cells from a corner, and from a black cell
pub exits_shown : (exit_of (panel 2 2 4000) (cell 1 1) (record { 0 = 4 }) ≡ Ok (cell 2 1))
    × (exit_of (panel 3 3 4000) (cell 1 1) (record { 0 = 9 }) ≡ Ok (cell 3 1))
    × (exit_of (panel 3 3 4000) (cell 2 1) (record { 0 = 9 }) ≡ Err NoExit)
unfolding f1 f2 f3 c2 c0 decided named class_count
exits_shown = (refl, refl, refl)

-- a wanted count of 0 or 1, which the entry alone would have: the other cell of two, and 12 on one cell
pub entry_shown : (exit_of (panel 2 1 4000) (cell 1 1) (record { 0 = 0 }) ≡ Ok (cell 2 1))
    × (exit_of (panel 2 1 4000) (cell 1 1) (record { 0 = 1 }) ≡ Ok (cell 2 1))
    × (exit_of (panel 1 1 4000) (cell 1 1) (record { 0 = 0 }) ≡ Err NoExit)
    × (exit_of (panel 1 1 4000) (cell 1 1) (record { 0 = 1 }) ≡ Err NoExit)
unfolding f1 f2 f3 c2 c0 decided named class_count
entry_shown = (refl, refl, refl, refl)
