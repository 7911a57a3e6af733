-- How many cells a list may have, computed: one, and as many as the panel has; with one more it is refused by 15. A wrong definition shows here.
use Rattle.std.specs.Prelude.{Ok, Err}
use mathlib.Core.Path.{◌≡◌, refl}
use mathlib.Core.List.{[], ◌∷◌}
use Rattle.grid.specs.declared.Refusal.TheVariants.{StepCount}
use Rattle.grid.specs.Panel.{panel, dist, apart}
use Rattle.list.specs.Check.{check_list}

pub counts_shown : (check_list (panel 1 1 4000) (1 ∷ 1 ∷ []) ≡ Ok tt)
    × (check_list (panel 2 1 4000) (2 ∷ 1 ∷ []) ≡ Ok tt)
    × (check_list (panel 2 1 4000) (1 ∷ 1 ∷ 2 ∷ 1 ∷ []) ≡ Ok tt)
    × (check_list (panel 2 1 4000) (1 ∷ 1 ∷ 2 ∷ 1 ∷ 1 ∷ 1 ∷ []) ≡ Err StepCount)
unfolding apart dist
counts_shown = (refl, refl, refl, refl)
