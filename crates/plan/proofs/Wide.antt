-- Every order has a plan of as many cells as its count: along the decision list of specs/Plan.antt, terminal by terminal and row by row.
use Prim.Native.Nat.{◌≤◌}
use mathlib.Core.Path.{◌≡◌, refl, sym}
use mathlib.Core.Logic.{◌≢◌}
use mathlib.Core.Bool.{Bool, true, false, cond}
use native.Mathlib.Omega.{arith}
use lib.Dec.{ltb}
use borrow.Author.Tests.{eqb-true, eqb-false, ltb-true, ltb-false}
use Rattle.grid.specs.declared.Panel.{Panel}
use Rattle.grid.specs.declared.Cell.{Cell}
use Rattle.grid.specs.Panel.{OnPanel, turned, turned_cell}
use Rattle.grid.proofs.Facts.{cell_eq}
use Rattle.grid.proofs.Moves.{turn_on}
use Rattle.grid.proofs.Tests.{both_branches}
use Rattle.count.specs.Count.{decided, named, class_count, count}
use Rattle.plan.specs.declared.Plan.{Plan}
use Rattle.plan.specs.Leg.{reversed_plan}
use Rattle.plan.specs.Plan.{moving, left_first, straight, corner, wide, plan_of}
use Rattle.plan.proofs.Cases.{if_equal}
use Rattle.plan.proofs.Chain.{Plans, exchanged}
use Rattle.plan.proofs.Moved.{plan_turned}
use Rattle.plan.proofs.Terminals.{Distinct}
use Rattle.plan.proofs.CornerLeg.{is_corner, no_corner, from_corner, to_corner}
use Rattle.plan.proofs.Decided.{decided_count}
use Rattle.plan.proofs.Rows.{one_row, two_rows_lem}
use Rattle.plan.proofs.ThreeRows.{three_rows_lem}
use Rattle.plan.proofs.FourRows.{four_wide}

module _ (p : Panel) (s t : Cell) (w : p.height ≤ p.width) (os : OnPanel p s) (ot : OnPanel p t) where
  wide_good : s.x ≤ t.x → Distinct s t → Plans p s t (decided_count p s t) (wide p.width p.height s t)
  unfolding wide
  wide_good l d =
      let P : Plan → Type 0 = Plans p s t (decided_count p s t) in
      both_branches P (straight p.height) _ _ (λ e. one_row p s t (eqb-true p.height 1 e) os ot l d) λ e.
      let n1 = eqb-false p.height 1 e in
      if_equal P p.height 2 _ _ (λ n. two_rows_lem p s t n os ot (omega arith) l d) λ n2.
      both_branches P (corner p.width p.height s) _ _ (λ e. from_corner p s t (omega arith) (omega arith) os ot d (is_corner p s e)) λ e.
      let ns = no_corner p s e in
      both_branches P (corner p.width p.height t) _ _ (λ e. to_corner p s t (omega arith) (omega arith) os ot d (is_corner p t e)) λ e.
      let nt = no_corner p t e in
      if_equal P p.height 3 _ _ (λ n. three_rows_lem p s t n (omega arith) os ot l d ns nt) λ n3.
      four_wide p s t (omega arith) os ot l ns nt w d

-- the terminals exchanged where s is right of t
ordered_good : (p : Panel) (s t : Cell) → p.height ≤ p.width → OnPanel p s → OnPanel p t → Distinct s t
    → Plans p s t (named p s t).count.0 (left_first (wide p.width p.height) s t)
unfolding named
ordered_good p s t w os ot d = go (ltb t.x s.x) refl
  where
    go : (b : Bool) → ltb t.x s.x ≡ b
        → Plans p s t (cond b (decided p t s) (decided p s t)).count.0
        (cond b (reversed_plan (wide p.width p.height t s)) (wide p.width p.height s t))
    go true e = let l = ltb-true t.x s.x e in exchanged (wide_good p t s w ot os (omega arith) (λ x y. d (sym x) (sym y)))
    go false e = wide_good p s t w os ot (ltb-false t.x s.x e) d

pub plan_good : (p : Panel) (s t : Cell) → OnPanel p s → OnPanel p t → s ≢ t → Plans p s t (count p s t) (plan_of p.width p.height s t)
unfolding class_count plan_of
plan_good p s t os ot d = go (ltb p.width p.height) refl
  where
    go : (b : Bool) → ltb p.width p.height ≡ b
        → Plans p s t (cond b (named (turned p) (turned_cell s) (turned_cell t)) (named p s t)).count.0
        (cond b (moving turned_cell (left_first (wide p.height p.width)) s t) (left_first (wide p.width p.height) s t))
    go true e =
        let l = ltb-true p.width p.height e in
        plan_turned {p = p} (ordered_good (turned p) (turned_cell s) (turned_cell t) (omega arith) (turn_on os) (turn_on ot) (λ x y. d (cell_eq y x)))
    go false e = ordered_good p s t (ltb-false p.width p.height e) os ot (λ x y. d (cell_eq x y))
