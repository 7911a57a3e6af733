-- Step counts, computed for a panel of 3 by 1: none, which is one cell, is taken, and 257, which are more than 2, are refused by 15. A wrong
-- definition shows here.
use Rattle.std.specs.Prelude.{Ok, Err}
use mathlib.Core.Path.{◌≡◌, refl}
use mathlib.Core.List.{[], ◌∷◌}
use Rattle.grid.specs.declared.Refusal.TheVariants.{StepCount}
use Rattle.record_head.specs.Head.{has_mark, check_head}

pub steps_shown : (check_head (0x46 ∷ 0x55 ∷ 3 ∷ 1 ∷ 0x0F ∷ 0x0F ∷ 1 ∷ 1 ∷ 0 ∷ 0 ∷ []) ≡ Ok tt)
    × (check_head (0x46 ∷ 0x55 ∷ 3 ∷ 1 ∷ 0x0F ∷ 0x0F ∷ 1 ∷ 1 ∷ 1 ∷ 1 ∷ []) ≡ Err StepCount)
unfolding has_mark
steps_shown = (refl, refl)
