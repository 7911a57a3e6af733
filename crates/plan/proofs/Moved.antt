-- A plan turned or mirrored is a plan of the same size. A map of cells that keeps panels, rectangles, neighbours, sides of a line and distances
-- carries a chain along; turning and mirroring in x are such maps, and mirroring in y is mirroring in x between two turns.
use Prim.Native.Nat.{ℕ, ◌+◌, ◌-◌, ◌≤◌, ◌<◌, min, max}
use mathlib.Core.Path.{◌≡◌, refl, sym, ap, ◌∙◌, subst, subst₂}
use mathlib.Core.Bool.{Bool, true, false, cond}
use mathlib.Core.List.{List, map}
use native.Mathlib.Omega.{arith}
use Rattle.grid.specs.declared.Panel.{Panel}
use Rattle.grid.specs.declared.Cell.{Cell}
use Rattle.grid.specs.Panel.{OnPanel, Neighbours, dist, turned, turned_cell}
use Rattle.grid.proofs.Facts.{beside, beside_is, cell_eq}
use Rattle.grid.proofs.Moves.{turning}
use Rattle.line.specs.Rectangle.{Inside}
use Rattle.corner.specs.Corner.{corner_count, track_count}
use Rattle.plan.specs.declared.Leg.{Leg}
use Rattle.plan.specs.declared.Plan.{Plan}
use Rattle.plan.specs.declared.Plan.TheVariants.{One, Two, Three, Five}
use Rattle.plan.specs.Leg.{start, stop, legs, total, moved_leg, moved_plan, mirror_x, mirror_y}
use Rattle.corner.proofs.Count.{count_turned}
use Rattle.plan.proofs.Chain.{LegFrom, Sep, on_left, on_right, above, below, Each, Chain, Plans, inside_on}

pub record LegMove (p q : Panel) (f : Cell → Cell) : Type 0 where
  pub on : (c : Cell) → OnPanel p c → OnPanel q (f c)
  pub inside : (a b c : Cell) → OnPanel p a → OnPanel p b → Inside a b c → Inside (f a) (f b) (f c)
  pub besides : (a b : Cell) → OnPanel p a → OnPanel p b → Neighbours a b → Neighbours (f a) (f b)
  pub seps : (g h : Leg) → OnPanel p g.a → OnPanel p g.b → OnPanel p h.a → OnPanel p h.b
      → Sep g h → Sep (moved_leg f g) (moved_leg f h)
  pub counts : (a b t : Cell) → OnPanel p a → OnPanel p b → Inside a b t → track_count (f a) (f b) (f t) ≡ track_count a b t

-- ---- a chain is carried along

module _ {p q : Panel} {f : Cell → Cell} (m : LegMove p q f) where
  either_moved : (b : Bool) (c d : Cell) → cond b (f c) (f d) ≡ f (cond b c d)
  either_moved true c d = refl
  either_moved false c d = refl

  start_moved : (g : Leg) → start (moved_leg f g) ≡ f (start g)
  start_moved g = either_moved g.back g.t g.a

  stop_moved : (g : Leg) → stop (moved_leg f g) ≡ f (stop g)
  stop_moved g = either_moved g.back g.a g.t

  leg_moved : {g : Leg} {s t : Cell} → LegFrom p g s t → LegFrom q (moved_leg f g) (f s) (f t)
  leg_moved {g} l = record {
    corner = m.on _ l.corner;
    opposite = m.on _ l.opposite;
    target = m.inside _ _ _ l.corner l.opposite l.target;
    from = start_moved g ∙ ap f l.from;
    to = stop_moved g ∙ ap f l.to;
  }

  -- where a leg starts and stops is on the panel
  leg_start : {g : Leg} {s t : Cell} → LegFrom p g s t → OnPanel p s
  leg_start {g} l = subst (λ (c : Cell). OnPanel p c) l.from (go g.back)
    where
      go : (b : Bool) → OnPanel p (cond b g.t g.a)
      go true = inside_on l.corner l.opposite l.target
      go false = l.corner

  leg_stop : {g : Leg} {s t : Cell} → LegFrom p g s t → OnPanel p t
  leg_stop {g} l = subst (λ (c : Cell). OnPanel p c) l.to (go g.back)
    where
      go : (b : Bool) → OnPanel p (cond b g.a g.t)
      go true = l.corner
      go false = inside_on l.corner l.opposite l.target

  chain_start : {s t : Cell} {l : List Leg} → Chain p s t l → OnPanel p s
  chain_start (Chain.one h) = leg_start h
  chain_start (Chain.more h n e r) = leg_start h

  each_moved : {g : Leg} {s t : Cell} {l : List Leg}
      → OnPanel p g.a → OnPanel p g.b → Chain p s t l → Each (Sep g) l → Each (Sep (moved_leg f g)) (map (moved_leg f) l)
  each_moved a b (Chain.one h) (Each.more s Each.none) = Each.more (m.seps _ _ a b h.corner h.opposite s) Each.none
  each_moved a b (Chain.more h n e r) (Each.more s z) = Each.more (m.seps _ _ a b h.corner h.opposite s) (each_moved a b r z)

  chain_moved : {s t : Cell} {l : List Leg} → Chain p s t l → Chain q (f s) (f t) (map (moved_leg f) l)
  chain_moved (Chain.one h) = Chain.one (leg_moved h)
  chain_moved (Chain.more h n e r) =
      Chain.more (leg_moved h) (m.besides _ _ (leg_stop h) (chain_start r) n) (each_moved h.corner h.opposite r e) (chain_moved r)

  total_moved : {s t : Cell} {l : List Leg} → Chain p s t l → total (map (moved_leg f) l) ≡ total l
  total_moved (Chain.one {g = g} h) = ap (λ (n : ℕ). n + 0) (m.counts g.a g.b g.t h.corner h.opposite h.target)
  total_moved (Chain.more {g = g} h n e r) = λ i. m.counts g.a g.b g.t h.corner h.opposite h.target i + total_moved r i

  legs_moved : (z : Plan) → legs (moved_plan f z) ≡ map (moved_leg f) (legs z)
  legs_moved (One g) = refl
  legs_moved (Two g h) = refl
  legs_moved (Three g h i) = refl
  legs_moved (Five g h i j k) = refl

  pub plan_moved : {s t : Cell} {k : ℕ} {z : Plan} → Plans p s t k z → Plans q (f s) (f t) k (moved_plan f z)
  plan_moved {s} {t} {k} {z} h = record {
    chain = subst (λ (l : List Leg). Chain q (f s) (f t) l) (sym (legs_moved z)) (chain_moved h.chain);
    size = ap total (legs_moved z) ∙ total_moved h.chain ∙ h.size;
  }

-- one map after another
pub after_move : {p q r : Panel} {f g : Cell → Cell} → LegMove p q f → LegMove q r g → LegMove p r (λ c. g (f c))
after_move m n = record {
  on = λ c o. n.on _ (m.on c o);
  inside = λ a b c oa ob i. n.inside _ _ _ (m.on a oa) (m.on b ob) (m.inside a b c oa ob i);
  besides = λ a b oa ob h. n.besides _ _ (m.on a oa) (m.on b ob) (m.besides a b oa ob h);
  seps = λ g h a b c d s. n.seps _ _ (m.on _ a) (m.on _ b) (m.on _ c) (m.on _ d) (m.seps g h a b c d s);
  counts = λ a b t oa ob i. n.counts _ _ _ (m.on a oa) (m.on b ob) (m.inside a b t oa ob i) ∙ m.counts a b t oa ob i;
}

-- ---- turning

-- a target lies no further than the opposite corner
inside_near : (a b c : ℕ) → min a b ≤ c → c ≤ max a b → dist a c < dist a b + 1
unfolding dist
inside_near a b c p q = omega arith

turn_sep : (g h : Leg) → Sep g h → Sep (moved_leg turned_cell g) (moved_leg turned_cell h)
turn_sep g h (on_left k p q r s) = above k p q r s
turn_sep g h (on_right k p q r s) = below k p q r s
turn_sep g h (above k p q r s) = on_left k p q r s
turn_sep g h (below k p q r s) = on_right k p q r s

-- between two panels of which each is as wide as the other is high
turn_between : (p q : Panel) → p.width ≡ q.height → p.height ≡ q.width → LegMove p q turned_cell
unfolding track_count
turn_between p q e f = record {
  on = λ c o. record { left = o.top; right = omega (arith, o.bottom); top = o.left; bottom = omega (arith, o.right) };
  inside = λ a b c oa ob i. record { left = i.top; right = i.bottom; top = i.left; bottom = i.right };
  besides = λ a b oa ob h. (turning p).keeps a b oa ob h;
  seps = λ g h a b c d s. turn_sep g h s;
  counts = λ a b t oa ob i. sym (count_turned _ _ _ _ (inside_near _ _ _ i.left i.right) (inside_near _ _ _ i.top i.bottom));
}

pub turn_move : (p : Panel) → LegMove p (turned p) turned_cell
turn_move p = turn_between p (turned p) refl refl

pub turn_back : (p : Panel) → LegMove (turned p) p turned_cell
turn_back p = turn_between (turned p) p refl refl

-- ---- mirroring

module _ (m : ℕ) where
  flip_dist : (a b : ℕ) → a ≤ m → b ≤ m → dist (m + 1 - a) (m + 1 - b) ≡ dist a b
  unfolding dist
  flip_dist a b p q = omega arith

  flip_min : (a b c : ℕ) → a ≤ m → b ≤ m → c ≤ max a b → min (m + 1 - a) (m + 1 - b) ≤ m + 1 - c
  flip_min a b c p q h = omega arith

  flip_max : (a b c : ℕ) → a ≤ m → b ≤ m → min a b ≤ c → m + 1 - c ≤ max (m + 1 - a) (m + 1 - b)
  flip_max a b c p q h = omega arith

  flip_le : (a k : ℕ) → k < a → a ≤ m → m + 1 - a ≤ m - k
  flip_le a k p q = omega arith

  flip_lt : (a k : ℕ) → a ≤ k → a ≤ m → m - k < m + 1 - a
  flip_lt a k p q = omega arith

  flip_sep : (g h : Leg) → g.a.x ≤ m → g.b.x ≤ m → h.a.x ≤ m → h.b.x ≤ m
      → Sep g h → Sep (moved_leg (mirror_x m) g) (moved_leg (mirror_x m) h)
  flip_sep g h a b c d (on_left k p q r s) = on_right (m - k) (flip_lt _ k p a) (flip_lt _ k q b) (flip_le _ k r c) (flip_le _ k s d)
  flip_sep g h a b c d (on_right k p q r s) = on_left (m - k) (flip_le _ k p a) (flip_le _ k q b) (flip_lt _ k r c) (flip_lt _ k s d)
  flip_sep g h a b c d (above k p q r s) = above k p q r s
  flip_sep g h a b c d (below k p q r s) = below k p q r s

  flip_beside : (a b : Cell) → a.x ≤ m → b.x ≤ m → Neighbours a b → Neighbours (mirror_x m a) (mirror_x m b)
  unfolding dist
  flip_beside a b p q h = beside (ap (λ (n : ℕ). n + dist a.y b.y) (flip_dist a.x b.x p q) ∙ beside_is h)

pub mirror_move : (p : Panel) → LegMove p p (mirror_x p.width)
unfolding track_count
mirror_move p = record {
  on = λ c o. record { left = let r = o.right in omega arith; right = let l = o.left in omega arith; top = o.top; bottom = o.bottom };
  inside = λ a b c oa ob i.
      record {
        left = flip_min p.width _ _ _ oa.right ob.right i.right;
        right = flip_max p.width _ _ _ oa.right ob.right i.left;
        top = i.top;
        bottom = i.bottom;
      };
  besides = λ a b oa ob h. flip_beside p.width a b oa.right ob.right h;
  seps = λ g h a b c d s. flip_sep p.width g h a.right b.right c.right d.right s;
  counts = λ a b t oa ob i.
      let w = flip_dist p.width a.x b.x oa.right ob.right in
      let d = flip_dist p.width a.x t.x oa.right (inside_on oa ob i).right in
      λ j. corner_count (w j + 1) (dist a.y b.y + 1) (d j) (dist a.y t.y);
}

pub mirror_y_move : (p : Panel) → LegMove p p (mirror_y p.height)
mirror_y_move p = after_move (after_move (turn_move p) (mirror_move (turned p))) (turn_back p)

-- ---- a plan for the moved terminals, moved: a plan for the terminals

back_again : (m x : ℕ) → x ≤ m → m + 1 - (m + 1 - x) ≡ x
back_again m x h = omega arith

module _ {p : Panel} {s t : Cell} {k : ℕ} {q : Plan} where
  pub plan_turned : Plans (turned p) (turned_cell s) (turned_cell t) k q → Plans p s t k (moved_plan turned_cell q)
  plan_turned h = plan_moved (turn_back p) h

  module _ (os : OnPanel p s) (ot : OnPanel p t) where
    pub plan_mirrored : Plans p (mirror_x p.width s) (mirror_x p.width t) k q → Plans p s t k (moved_plan (mirror_x p.width) q)
    plan_mirrored h =
        subst₂ (λ (u v : Cell). Plans p u v k (moved_plan (mirror_x p.width) q)) (back os) (back ot) (plan_moved (mirror_move p) h)
      where
        back : {c : Cell} → OnPanel p c → mirror_x p.width (mirror_x p.width c) ≡ c
        back {c} o = cell_eq (back_again p.width c.x o.right) refl

    pub plan_flipped : Plans p (mirror_y p.height s) (mirror_y p.height t) k q → Plans p s t k (moved_plan (mirror_y p.height) q)
    plan_flipped h =
        subst₂ (λ (u v : Cell). Plans p u v k (moved_plan (mirror_y p.height) q)) (back os) (back ot) (plan_moved (mirror_y_move p) h)
      where
        back : {c : Cell} → OnPanel p c → mirror_y p.height (mirror_y p.height c) ≡ c
        back {c} o = cell_eq refl (back_again p.height c.y o.bottom)
