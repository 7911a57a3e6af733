-- The square on one side of a step from a to b: from a over the two cells beside them to b goes a way around.
use Prim.Native.Nat.{ℕ, ◌+◌, ◌-◌, ◌≤◌}
use native.Mathlib.Omega.{arith}
use mathlib.Core.Path.{◌≡◌, sym, subst}
use mathlib.Core.Logic.{◌≢◌}
use Rattle.grid.specs.declared.Panel.{Panel}
use Rattle.grid.specs.declared.Cell.{Cell}
use Rattle.grid.specs.Panel.{dist, apart, OnPanel, Neighbours}
use Rattle.grid.proofs.Facts.{beside_is, beside_sym, dist_sym}
use Rattle.detour.specs.declared.Side.{Side}
use Rattle.detour.specs.declared.Side.TheVariants.{Left, Right}
use Rattle.detour.specs.Detour.{left_of, cell_beside}

-- neighbours are two cells
pub next_ne : {a b : Cell} → Neighbours a b → a ≢ b
next_ne {a} {b} n e = absurd (omega (arith, beside_is (subst (λ (c : Cell). Neighbours a c) (sym e) n)))

-- ---- a coordinate m moved by j - i, which is -1 at the least

-- it comes as far as i and j are apart
moved_far : (m i j : ℕ) → 1 ≤ m → i ≤ j + 1 → dist m (m + j - i) ≡ dist i j
unfolding dist
moved_far m i j low near = omega arith

-- two that are moved stay as far apart
moved_both : (m n i j : ℕ) → 1 ≤ m → 1 ≤ n → i ≤ j + 1 → dist (m + j - i) (n + j - i) ≡ dist m n
unfolding dist
moved_both m n i j low high near = omega arith

-- a step moves by -1 at the least
near : {a b : Cell} → Neighbours a b → (a.y ≤ b.y + 1) × (b.x ≤ a.x + 1)
near n = omega (arith, beside_is n)

-- ---- left of the way

module _ {p : Panel} {a b : Cell} (n : Neighbours a b) where
  -- the cell beside a cell is its neighbour
  left_next : {c : Cell} → OnPanel p c → Neighbours c (left_of a b c)
  unfolding apart
  left_next {c} o =
      let across = moved_far c.x a.y b.y o.left (near n).0 in
      let down = moved_far c.y b.x a.x o.top (near n).1 in
      record { one = omega (arith, across, down, n.one, dist_sym b.x a.x) }

  -- those beside a and b are neighbours
  left_along : OnPanel p a → OnPanel p b → Neighbours (left_of a b a) (left_of a b b)
  unfolding apart
  left_along o q =
      let across = moved_both a.x b.x a.y b.y o.left q.left (near n).0 in
      let down = moved_both a.y b.y b.x a.x o.top q.top (near n).1 in
      record { one = omega (arith, across, down, n.one) }

-- ---- a way around, and the same backwards

pub record AroundStep (a c d b : Cell) : Type 0 where
  pub out : Neighbours a c
  pub along : Neighbours c d
  pub back : Neighbours d b

pub reversed : {a c d b : Cell} → AroundStep a c d b → AroundStep b d c a
reversed w = record { out = beside_sym w.back; along = beside_sym w.along; back = beside_sym w.out }

-- ---- on either side: right of the way is left of the way back

around_left : {p : Panel} {a b : Cell} → Neighbours a b → OnPanel p a → OnPanel p b → AroundStep a (left_of a b a) (left_of a b b) b
around_left n o q = record { out = left_next n o; along = left_along n o q; back = beside_sym (left_next n q) }

pub around_step : {p : Panel} {a b : Cell} (side : Side) → Neighbours a b → OnPanel p a → OnPanel p b
    → AroundStep a (cell_beside side a b a) (cell_beside side a b b) b
around_step Left n o q = around_left n o q
around_step Right n o q = reversed (around_left (beside_sym n) q o)
