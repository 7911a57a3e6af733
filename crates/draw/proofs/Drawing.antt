-- A plan drawn: the plan that the code chooses for an order is good, so its legs can be drawn, and their cells are the track between two cells.
use Prim.Native.Nat.{ℕ, ◌*◌, ◌≤◌}
use mathlib.Core.Path.{◌≡◌, refl, sym, ap, ◌∙◌, subst, subst₂}
use mathlib.Core.Bool.{true, false}
use mathlib.Core.List.{List}
use mathlib.Core.Logic.{◌≢◌}
use lib.ListN.{length}
use native.Mathlib.Omega.{arith}
use lib.Dec.{eqb}
use borrow.Author.Tests.{eqb-true}
use Rattle.grid.specs.declared.Panel.{Panel}
use Rattle.grid.specs.declared.Cell.{Cell}
use Rattle.grid.specs.declared.Cells.{Cells}
use Rattle.grid.specs.Panel.{panel, OnPanel, GoodSides}
use Rattle.grid.proofs.Facts.{and_parts}
use Rattle.grid.proofs.Sides.{sides_same, cell_same}
use Rattle.grid.proofs.Tests.{cond_no}
use Rattle.list.specs.List.{with_cells}
use Rattle.line.specs.Drawn.{InBytes, written}
use Rattle.count.specs.Count.{count}
use Rattle.count.specs.Order.{order_count}
use Rattle.count.proofs.Sides.{order_count_same}
use Rattle.count.proofs.Terminals.{spot_count, differing_count}
use Rattle.grid.proofs.Passed.{GoodOrder}
use Rattle.draw.specs.Draw.{Roomy}
use Rattle.plan.specs.declared.Leg.{Leg}
use Rattle.plan.specs.declared.Plan.{Plan}
use Rattle.plan.specs.Leg.{legs, legs_cells}
use Rattle.plan.specs.Plan.{plan_of}
use Rattle.plan.specs.Drawing.{Each, Drawable, Room, Written}
use Rattle.plan.proofs.Chain.{LegFrom, Chain, Plans, length_plan}
use Rattle.plan.proofs.Wide.{plan_good}
use Rattle.table.specs.Order.{ReadyOrder}
use Rattle.draw.specs.Track.{is_three, track_between}

-- a leg of a panel with good sides is drawable
leg_drawable : {p : Panel} {g : Leg} {s t : Cell} → GoodSides p → LegFrom p g s t → Drawable g
leg_drawable {p} h f = record { corner = byte f.corner; opposite = byte f.opposite; inside = f.target }
  where
    byte : {c : Cell} → OnPanel p c → InBytes c
    byte o = record { across = let e = o.right in omega (arith, h.widest); down = let e = o.bottom in omega (arith, h.highest) }

chain_drawable : {p : Panel} {s t : Cell} {l : List Leg} → GoodSides p → Chain p s t l → Each Drawable l
chain_drawable h (Chain.one f) = Each.more (leg_drawable h f) Each.none
chain_drawable h (Chain.more f n e r) = Each.more (leg_drawable h f) (chain_drawable h r)

-- a good order with room on one panel has it on every panel of the same sides
pub roomy : {p : Panel} {s t : Cell} {old : List ℕ} → GoodOrder p s t → 2 * order_count p s t ≤ length old
    → (q : ℕ) → Roomy (panel p.width p.height q) s t old
roomy {p} {s} {t} g h q = record {
  sides = sides_same g.panel.sides;
  entry = cell_same s g.entry;
  exit = cell_same t g.exit;
  room = omega (arith, h, order_count_same p.width p.height p.pitch q s t);
}

module _ {p : Panel} {s t : Cell} {old : List ℕ} (o : Roomy p s t old) where
  -- one cell has two bytes
  pub spot_room : s ≡ t → 2 ≤ length old
  spot_room e = omega (arith, o.room, spot_count p e)

  -- different cells have the count of Theorem 4.1
  pub ready : s ≢ t → ReadyOrder p s t old
  ready d = record { sides = o.sides; entry = o.entry; exit = o.exit; differ = d; room = omega (arith, o.room, differing_count p d) }

-- sides that were found to be 3
module _ (m n : ℕ) (s t : Cell) (old : List ℕ) (e : is_three m n ≡ true) where
  pub three_ready : ((q : ℕ) → ReadyOrder (panel m n q) s t old) → (q : ℕ) → ReadyOrder (panel 3 3 q) s t old
  three_ready o q =
      let (w, h) = and_parts (eqb m 3) (eqb n 3) e in
      subst₂ (λ (m n : ℕ). ReadyOrder (panel m n q) s t old) (eqb-true m 3 w) (eqb-true n 3 h) (o q)

-- the plan that the code chooses for an order
module _ {p : Panel} {s t : Cell} {old : List ℕ} (o : ReadyOrder p s t old) {q : Plan} (e : q ≡ plan_of p.width p.height s t) where
  chosen : Plans p s t (count p s t) q
  chosen = subst (λ (q : Plan). Plans p s t (count p s t) q) (sym e) (plan_good p s t o.entry o.exit o.differ)

  pub plan_room : Room (legs q) old
  plan_room = record { each = chain_drawable o.sides chosen.chain; room = omega (arith, chosen.size, o.room) }

  pub plan_drawn : {r : Cells} {new : List ℕ} → is_three p.width p.height ≡ false → Written (legs q) r old new
      → new ≡ with_cells (track_between p.width p.height s t) old
  plan_drawn n w =
      w.content ∙ ap (λ (k : ℕ). written (legs_cells (legs q)) k old) (chosen.size ∙ sym (length_plan chosen))
      ∙ ap (λ (q : Plan). with_cells (legs_cells (legs q)) old) e ∙ ap (λ (l : List Cell). with_cells l old) (cond_no _ _ n refl)
