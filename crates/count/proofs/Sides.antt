-- Class and count go by the sides of a panel and by nothing else: panels of the same sides have the same, whatever their pitches, and a longest track
-- on one is a longest track on the other.
use Prim.Native.Nat.{ℕ}
use mathlib.Core.Path.{◌≡◌, refl, ap}
use mathlib.Core.Bool.{cond}
use mathlib.Core.List.{List}
use Rattle.grid.specs.declared.Cell.{Cell}
use Rattle.grid.specs.Panel.{panel, same_cell}
use Rattle.grid.proofs.Sides.{track_same}
use Rattle.count.specs.declared.ClassCount.{ClassCount}
use Rattle.count.specs.Count.{class_count, named, decided, f1, f2, f3, c2, c0, found, count}
use Rattle.count.specs.Order.{order_class_count, order_count}
use Rattle.count.specs.Longest.{Longest}

pub by_sides : (m n a b : ℕ) (s t : Cell) → class_count (panel m n a) s t ≡ class_count (panel m n b) s t
unfolding class_count named decided f1 f2 f3 c2 c0
by_sides m n a b s t = refl

pub count_same : (m n a b : ℕ) (s t : Cell) → count (panel m n a) s t ≡ count (panel m n b) s t
count_same m n a b s t = ap (λ (k : ClassCount). k.count.0) (by_sides m n a b s t)

-- and so of an order, whose terminals may be equal
pub order_by_sides : (m n a b : ℕ) (s t : Cell) → order_class_count (panel m n a) s t ≡ order_class_count (panel m n b) s t
unfolding order_class_count
order_by_sides m n a b s t = ap (cond (same_cell s t) (found 6 1)) (by_sides m n a b s t)

pub order_count_same : (m n a b : ℕ) (s t : Cell) → order_count (panel m n a) s t ≡ order_count (panel m n b) s t
order_count_same m n a b s t = ap (λ (k : ClassCount). k.count.0) (order_by_sides m n a b s t)

pub longest_same : {m n a b k : ℕ} {s t : Cell} {l : List Cell} → Longest (panel m n a) s t k l → Longest (panel m n b) s t k l
longest_same h = record { size = h.size; track = track_same h.track; none_longer = λ l r. h.none_longer l (track_same r) }
