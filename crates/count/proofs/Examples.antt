-- R-6's class 6, computed for every pitch, where other lines would fit too. A wrong definition shows here by its numbers.
use Prim.Native.Nat.{ℕ}
use mathlib.Core.Path.{◌≡◌, refl}
use Rattle.grid.specs.Panel.{panel, cell}
use Rattle.count.specs.Count.{f1, f2, f3, c2, c0, found, decided, named, class_count}
use Rattle.count.specs.Order.{order_class_count}

-- one cell, which without its class is C0; in one row, which is F1; in two rows, F2*; black on an odd panel, C2; on the largest, C1
pub spots_shown : (q : ℕ)
    → (order_class_count (panel 1 1 q) (cell 1 1) (cell 1 1) ≡ found 6 1)
    × (order_class_count (panel 5 1 q) (cell 2 1) (cell 2 1) ≡ found 6 1)
    × (order_class_count (panel 6 2 q) (cell 3 2) (cell 3 2) ≡ found 6 1)
    × (order_class_count (panel 3 3 q) (cell 2 1) (cell 2 1) ≡ found 6 1)
    × (order_class_count (panel 128 128 q) (cell 128 128) (cell 128 128) ≡ found 6 1)
unfolding f1 f2 f3 c2 c0 decided named class_count order_class_count
spots_shown q = (refl, refl, refl, refl, refl)
