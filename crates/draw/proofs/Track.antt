-- The track that Draw draws is a longest one: between different cells it is the one that the plan, or the table on 3 by 3, shows to have the count's cells.
use Prim.Native.Nat.{ℕ}
use mathlib.Core.Path.{◌≡◌, sym, ◌∙◌, subst}
use mathlib.Core.Bool.{true}
use mathlib.Core.Logic.{◌≢◌}
use mathlib.Core.List.{List, [], ◌∷◌}
use native.Mathlib.Omega.{arith}
use lib.Dec.{eqb}
use lib.ListN.{length}
use borrow.Author.Tests.{eqb-true}
use Rattle.grid.specs.declared.Panel.{Panel}
use Rattle.grid.specs.declared.Cell.{Cell}
use Rattle.grid.specs.Panel.{panel, OnPanel, same_cell}
use Rattle.grid.specs.Track.{Track}
use Rattle.grid.proofs.Facts.{and_parts, same_eq, same_ne}
use Rattle.grid.proofs.Tests.{both_branches}
use Rattle.grid.proofs.Track.{single, widen}
use Rattle.count.specs.Count.{count}
use Rattle.count.specs.Order.{order_count}
use Rattle.count.proofs.Sides.{count_same}
use Rattle.count.proofs.Terminals.{spot_count, differing_count}
use Rattle.plan.proofs.Chain.{plan_track, length_plan}
use Rattle.plan.proofs.Wide.{plan_good}
use Rattle.table.proofs.Rows.{three}
use Rattle.table.proofs.Placed.{tabled_track, length_tabled}
use Rattle.table.specs.Table.{tabled}
use Rattle.draw.specs.Track.{is_three, track_between, drawn_track}

module _ (p : Panel) (s t : Cell) (os : OnPanel p s) (ot : OnPanel p t) where
  -- a track of k cells
  abbrev Sized : ℕ → List Cell → Type 0
  Sized k l = Track p s t l × (length l ≡ k)

  -- 3 by 3 cells, at any pitch
  module _ (d : s ≢ t) (e : is_three p.width p.height ≡ true) where
    sides : (p.width ≡ 3) × (p.height ≡ 3)
    sides =
        let (w, h) = and_parts (eqb p.width 3) (eqb p.height 3) e in
        (eqb-true _ _ w, eqb-true _ _ h)

    to_three : (c : Cell) → OnPanel p c → OnPanel three c
    to_three c o = record { left = o.left; right = omega (arith, sides, o.right); top = o.top; bottom = omega (arith, sides, o.bottom) }

    from_three : (c : Cell) → OnPanel three c → OnPanel p c
    from_three c o = record { left = o.left; right = omega (arith, sides, o.right); top = o.top; bottom = omega (arith, sides, o.bottom) }

    small : Sized (count p s t) (tabled s t)
    small =
        let us = to_three s os in
        let ut = to_three t ot in (
          widen from_three (tabled_track s t us ut d),
          length_tabled s t us ut d ∙ count_same 3 3 4000 p.pitch s t ∙ (λ i. count (panel (sym sides.0 i) (sym sides.1 i) p.pitch) s t),
        )

  between : s ≢ t → Sized (count p s t) (track_between p.width p.height s t)
  between d =
      let h = plan_good p s t os ot d in
      both_branches (Sized (count p s t)) (is_three p.width p.height) _ _ (small d) (λ e. (plan_track h, length_plan h))

  drawn : Sized (order_count p s t) (drawn_track p.width p.height s t)
  unfolding drawn_track
  drawn =
      both_branches (Sized (order_count p s t)) (same_cell s t) _ _
      (λ e. let q = same_eq s t e in (subst (λ (c : Cell). Track p s c (s ∷ [])) q (single os), sym (spot_count p q)))
      (λ e. let d = same_ne s t e in subst (λ (k : ℕ). Sized k (track_between p.width p.height s t)) (sym (differing_count p d)) (between d))

  pub drawn_track_lem : Track p s t (drawn_track p.width p.height s t)
  drawn_track_lem = drawn.0

  pub length_drawn : length (drawn_track p.width p.height s t) ≡ order_count p s t
  length_drawn = drawn.1
