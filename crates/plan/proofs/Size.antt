-- How many cells the plans have on small panels, by computation; and how many a corner track has in a block of two rows and two columns or more:
-- all, or all but one, by parity. The other cases are `count_here`, `count_flat` and `count_thin` of the crate `corner`.
use Prim.Native.Nat.{ℕ, ◌+◌, ◌-◌, ◌*◌, ◌%◌, ◌≤◌, ◌<◌}
use mathlib.Core.Path.{◌≡◌, refl}
use mathlib.Core.Bool.{cond}
use native.Mathlib.Omega.{arith}
use Rattle.grid.specs.declared.Panel.{Panel}
use Rattle.grid.specs.declared.Cell.{Cell}
use Rattle.grid.specs.Panel.{panel, cell, same_cell, dist}
use Rattle.corner.specs.Corner.{corner_count, track_count}
use Rattle.corner.proofs.Count.{count_full}
use Rattle.count.specs.Count.{f1, f2, f3, c2, c0, decided, named, class_count, count}
use Rattle.count.specs.Longest.{columns_weight, panel_weight}
use Rattle.plan.specs.Leg.{legs, total}
use Rattle.plan.specs.Plan.{split, bridge, wrap, round, zigzag, middle, two_rows, three_rows_apart, three_rows, wrapped, crossing, inner_split}
use Rattle.plan.specs.Plan.{edge_split, at_edge, bridged, four_rows, wide, plan_of}

-- ---- plans on small panels

-- by how many cells the plan of an order misses its count
abbrev off : Panel → Cell → Cell → ℕ
off p s t = cond (same_cell s t) 0 (dist (total (legs (plan_of p.width p.height s t))) (count p s t))

-- by how many the plans from s to the other cells of the panel do
abbrev off_from : Panel → Cell → ℕ
off_from p s = panel_weight (off p s) p

-- From an entry on panels of one to four rows none does. `plan_good` (Wide.antt) says it of every order; here a wrong plan shows as a number.
plans_counted : (q : ℕ)
    → off_from (panel 5 1 q) (cell 2 1) + off_from (panel 6 2 q) (cell 2 1) + off_from (panel 4 3 q) (cell 1 2) + off_from (panel 4 4 q) (cell 1 2) ≡ 0
unfolding columns_weight f1 f2 f3 c2 c0 decided named class_count dist track_count corner_count
    split bridge wrap round zigzag middle two_rows three_rows_apart three_rows wrapped crossing inner_split edge_split at_edge bridged four_rows wide plan_of
plans_counted q = refl

-- ---- blocks

-- a block of w by h, its target d steps from its corner
unfoldable pub block_count : ℕ → ℕ → ℕ → ℕ
block_count w h d = w * h - 1 + (w * h + d) % 2

pub count_block : (w h dx dy : ℕ) → 2 ≤ w → 2 ≤ h → 0 < dx + dy → corner_count w h dx dy ≡ block_count w h (dx + dy)
unfolding block_count
count_block w h dx dy p q r = count_full w h dx dy (λ (z : dx + dy ≡ 0). omega arith) (λ (z : w ≡ 1). omega arith) (λ (z : h ≡ 1). omega arith)

-- what a block loses
pub block_loss : (w h d : ℕ) → 1 ≤ w * h → block_count w h d + (w * h + d + 1) % 2 ≡ w * h
unfolding block_count
block_loss w h d p = loss (w * h) d p
  where
    loss : (a e : ℕ) → 1 ≤ a → a - 1 + (a + e) % 2 + (a + e + 1) % 2 ≡ a
    loss a e q = omega arith
