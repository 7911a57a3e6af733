-- The bench's check of some panels, computed. A wrong definition shows here by its numbers.
use Rattle.std.specs.Prelude.{Ok, Err}
use mathlib.Core.Path.{◌≡◌, refl}
use Rattle.grid.specs.declared.Refusal.TheVariants.{Side, Pitch, BenchSide}
use Rattle.grid.specs.Panel.{panel}
use Rattle.bench.specs.Bench.{check_bench}

-- 1 and 18 come before 19: a bad pitch with a side of 33; a side above 128 or of 0 with one that the bench does not take
pub before_shown : (check_bench (panel 33 5 999) ≡ Err Pitch) × (check_bench (panel 129 33 4000) ≡ Err Side)
    × (check_bench (panel 0 128 4000) ≡ Err Side)
before_shown = (refl, refl, refl)

-- 19 for either side, from 33 to 128; 32 by 32 is taken
pub sides_shown : (check_bench (panel 33 5 4000) ≡ Err BenchSide) × (check_bench (panel 5 33 4000) ≡ Err BenchSide)
    × (check_bench (panel 128 128 4000) ≡ Err BenchSide) × (check_bench (panel 32 32 4000) ≡ Ok tt)
sides_shown = (refl, refl, refl, refl)
