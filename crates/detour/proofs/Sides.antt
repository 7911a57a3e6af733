-- The other way round: a way from a over c and d to b, around a step from a to b, is on one of its sides.
use Prim.Native.Nat.{◌+◌, ◌*◌}
use native.Mathlib.Omega.{arith}
use mathlib.Core.Path.{◌≡◌, refl}
use mathlib.Core.Logic.{◌≢◌, ◌⊎◌, inl, inr}
use mathlib.Core.Bool.{Bool, true, false}
use lib.Dec.{eqb}
use borrow.Author.Tests.{eqb-true, eqb-false}
use Rattle.grid.specs.declared.Cell.{Cell}
use Rattle.grid.specs.Panel.{dist, Neighbours}
use Rattle.grid.proofs.Facts.{cell_eq, beside_is, beside_sym}
use Rattle.detour.specs.Detour.{left_of}
use Rattle.detour.proofs.Square.{AroundStep, reversed}

-- a step changes x + y by 1, and x - y by 1
sum_step : {a b : Cell} → Neighbours a b → dist (a.x + a.y) (b.x + b.y) ≡ 1
unfolding dist
sum_step n = omega (arith, beside_is n)

difference_step : {a b : Cell} → Neighbours a b → dist (a.x + b.y) (b.x + a.y) ≡ 1
unfolding dist
difference_step n = omega (arith, beside_is n)

-- where two neighbours of m differ in the one or in the other, m is in the middle
module _ {m b c : Cell} (n : Neighbours m b) (k : Neighbours m c) where
  sum_between : b.x + b.y ≢ c.x + c.y → b.x + b.y + (c.x + c.y) ≡ 2 * (m.x + m.y)
  unfolding dist
  sum_between h = omega (arith, sum_step n, sum_step k)

  difference_between : b.x + c.y ≢ c.x + b.y → b.x + c.x + 2 * m.y ≡ 2 * m.x + (b.y + c.y)
  unfolding dist
  difference_between h = omega (arith, difference_step n, difference_step k)

-- a step is upright or level
level_or_upright : {a b : Cell} → Neighbours a b → (a.x ≡ b.x) ⊎ (a.y ≡ b.y)
level_or_upright {a} {b} n = by (eqb a.x b.x) refl
  where
    by : (r : Bool) → eqb a.x b.x ≡ r → (a.x ≡ b.x) ⊎ (a.y ≡ b.y)
    by true e = inl (eqb-true _ _ e)
    by false e = inr (omega (arith, beside_is n, eqb-false))

-- c and d are the cells beside a and b on one side
pub data OnSide (a c d b : Cell) : Type 0 where
  on_left : c ≡ left_of a b a → d ≡ left_of a b b → OnSide a c d b
  on_right : c ≡ left_of b a a → d ≡ left_of b a b → OnSide a c d b

-- seen from b, it is the other side
seen_back : {a c d b : Cell} → OnSide b d c a → OnSide a c d b
seen_back (OnSide.on_left d c) = OnSide.on_right c d
seen_back (OnSide.on_right d c) = OnSide.on_left c d

-- the sums and differences say where c and d are: x as on the left, y as on the right, and one of the two is as on both sides
settled : {a c d b : Cell} → (a.x ≡ b.x) ⊎ (a.y ≡ b.y)
    → b.x + b.y ≡ c.x + c.y → b.x + c.x + 2 * a.y ≡ 2 * a.x + (b.y + c.y)
    → a.x + a.y + (d.x + d.y) ≡ 2 * (b.x + b.y) → b.x + c.x + 2 * d.y ≡ 2 * d.x + (b.y + c.y) → OnSide a c d b
settled (inl u) e f g h = OnSide.on_left (cell_eq (omega arith) (omega arith)) (cell_eq (omega arith) (omega arith))
settled (inr v) e f g h = OnSide.on_right (cell_eq (omega arith) (omega arith)) (cell_eq (omega arith) (omega arith))

-- where b and c have the same sum; where not, a and d have, and the way back is such a way
same_sum : {a c d b : Cell} → Neighbours a b → AroundStep a c d b → a ≢ d → b ≢ c → b.x + b.y ≡ c.x + c.y → OnSide a c d b
same_sum {a} {c} {d} {b} n w ad bc e =
    let differ : b.x + c.y ≢ c.x + b.y = λ q. bc (cell_eq (omega arith) (omega arith)) in
    let f = difference_between n w.out differ in
    let h = difference_between w.back (beside_sym w.along) differ in
    let g = sum_between (beside_sym n) (beside_sym w.back) (λ q. ad (cell_eq (omega arith) (omega arith))) in
    settled (level_or_upright n) e f g h

pub on_side : {a c d b : Cell} → Neighbours a b → AroundStep a c d b → a ≢ d → b ≢ c → OnSide a c d b
on_side {a} {c} {d} {b} n w ad bc = by (eqb (b.x + b.y) (c.x + c.y)) refl
  where
    by : (r : Bool) → eqb (b.x + b.y) (c.x + c.y) ≡ r → OnSide a c d b
    by true e = same_sum n w ad bc (eqb-true _ _ e)
    by false e =
        let differ = eqb-false _ _ e in
        let f = sum_between n w.out differ in
        let g = sum_between w.back (beside_sym w.along) differ in
        seen_back (same_sum (beside_sym n) (reversed w) bc ad (omega arith))
