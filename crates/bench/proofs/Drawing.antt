-- What Draw leaves on the bench for an order, by its numbers.
use mathlib.Core.Path.{◌≡◌, refl}
use mathlib.Core.List.{[], ◌∷◌}
use Rattle.grid.specs.Panel.{panel, cell}
use Rattle.count.specs.Count.{f1, f2, f3, c2, c0, decided, named, class_count}
use Rattle.count.specs.Order.{order_class_count}
use Rattle.table.specs.Table.{placing_from, placing, tabled}
use Rattle.draw.specs.Track.{drawn_track}
use Rattle.bench.specs.Bench.{bench_buffer}

-- 3 by 3 from (2, 1) to (2, 3), into a buffer of zeros with a byte more: one of two longest tracks
pub drawn_shown : bench_buffer (panel 3 3 4000) (cell 2 1) (cell 2 3) (0 ∷ 0 ∷ 0 ∷ 0 ∷ 0 ∷ 0 ∷ 0 ∷ 0 ∷ 0 ∷ 0 ∷ 0 ∷ 0 ∷ 0 ∷ 0 ∷ 0 ∷ [])
    ≡ 2 ∷ 1 ∷ 1 ∷ 1 ∷ 1 ∷ 2 ∷ 2 ∷ 2 ∷ 3 ∷ 2 ∷ 3 ∷ 3 ∷ 2 ∷ 3 ∷ 0 ∷ []
unfolding f1 f2 f3 c2 c0 decided named class_count order_class_count placing_from placing tabled drawn_track
drawn_shown = refl
