-- Panels of three rows: the plan that is chosen is a plan of the count's size, along the definition of `three_rows`. A terminal is no corner, so that
-- terminals further apart in rows than in columns leave the outer columns free for a zigzag.
use Prim.Native.Nat.{ℕ, ◌+◌, ◌-◌, ◌*◌, ◌%◌, ◌≤◌, ◌<◌}
use mathlib.Core.Path.{◌≡◌, refl, sym, ◌∙◌, subst⁻¹}
use mathlib.Core.Logic.{◌⊎◌, inl, inr, dite}
use mathlib.Core.Bool.{Bool, true, false, not, ◌&&◌, true≢false}
use native.Mathlib.Omega.{arith}
use native.Mathlib.Decide.{ℕ_discrete, dec_lt}
use lib.Dec.{eqb}
use borrow.Author.Tests.{eqb-true, eq-eqb, not-true}
use Rattle.grid.specs.declared.Panel.{Panel}
use Rattle.grid.specs.declared.Cell.{Cell}
use Rattle.grid.specs.Panel.{OnPanel}
use Rattle.grid.proofs.Facts.{and_parts}
use Rattle.grid.proofs.Tests.{both_branches}
use Rattle.count.specs.Count.{odd}
use Rattle.plan.specs.declared.Plan.{Plan}
use Rattle.plan.specs.Leg.{mirror_x}
use Rattle.plan.specs.Plan.{moving, split, zigzag, middle, critical, free, steep, third, three_rows_apart, three_rows}
use Rattle.plan.proofs.Cases.{if_equal}
use Rattle.plan.proofs.Chain.{Plans}
use Rattle.plan.proofs.Moved.{mirror_move, plan_mirrored}
use Rattle.plan.proofs.Parity.{odd_no, is_even}
use Rattle.plan.proofs.Terminals.{Distinct, NotCorner, Steep, Near, Critical, steep_yes, steep_no, free_yes, free_no, critical_yes, critical_no}
use Rattle.plan.proofs.Decided.{decided_count}
use Rattle.plan.proofs.ThreeCount.{Far, loss, parity, lost_three, whole_three}
use Rattle.plan.proofs.ThreeLegs.{upper, lower, outer, split_three, middle_three, zigzag_three}

-- s in an even column, t in the next
module _ (s t : Cell) where
  abbrev next : Bool
  next = not (odd s.x) && eqb (s.x + 1) t.x

  next_yes : next ≡ true → (s.x % 2 ≡ 0) × (s.x + 1 ≡ t.x)
  next_yes e =
      let h = and_parts (not (odd s.x)) (eqb (s.x + 1) t.x) e in
      (is_even s.x (not-true _ h.0), eqb-true _ _ h.1)

  next_no : next ≡ false → s.x % 2 ≡ 0 → s.x + 1 ≡ t.x → ⊥
  next_no e f g = true≢false ((λ i. not (sym (odd_no s.x f) i) && sym (eq-eqb (s.x + 1) t.x g) i) ∙ e)

-- ---- over plain numbers

-- terminals further apart in rows than in columns, one of them in row 2, are in one column and in two rows
lone : (s t : Cell) → s.x ≤ t.x → 1 ≤ s.y → s.y ≤ 3 → 1 ≤ t.y → t.y ≤ 3 → (s.y ≡ 2) ⊎ (t.y ≡ 2) → Steep s t
    → (t.x ≡ s.x) × (s.y ≡ t.y → ⊥)
lone s t l a b c d (inl e) (inl h) = omega arith
lone s t l a b c d (inl e) (inr h) = omega arith
lone s t l a b c d (inr e) (inl h) = omega arith
lone s t l a b c d (inr e) (inr h) = omega arith

-- a black and a white cell in neighbouring columns, the first of them even, or odd
outer_pair : (x y q : ℕ) → x % 2 ≡ 0 → (x + y) % 2 ≡ 1 → (x + 1 + q) % 2 ≡ 0 → (y ≡ 2 → ⊥) × (q ≡ 2 → ⊥)
outer_pair x y q e f g = omega arith

middle_pair : (x y q : ℕ) → x % 2 ≡ 1 → (x + y) % 2 ≡ 1 → (x + 1 + q) % 2 ≡ 0 → 1 ≤ y → y ≤ 3 → 1 ≤ q → q ≤ 3
    → (y ≡ 2) × (q ≡ 2)
middle_pair x y q e f g a b c d = omega arith

-- colours in the mirror, the width being even
mirror_white : (m x y : ℕ) → x ≤ m → m % 2 ≡ 0 → (x + y) % 2 ≡ 1 → (m + 1 - x + y) % 2 ≡ 0
mirror_white m x y l e f = omega arith

mirror_black : (m x y : ℕ) → x ≤ m → m % 2 ≡ 0 → (x + y) % 2 ≡ 0 → (m + 1 - x + y + m + 1) % 2 ≡ 0
mirror_black m x y l e f = omega arith

-- ---- which plan

-- a terminal in an outer column is in row 2
outer_second : (p : Panel) (c : Cell) → p.height ≡ 3 → OnPanel p c → NotCorner p c → (c.x ≡ 1) ⊎ (c.x ≡ p.width) → c.y ≡ 2
outer_second p c high oc nc h =
    dite (ℕ_discrete c.y 1) (λ e. absurd (first e h)) λ e.
    dite (ℕ_discrete c.y 3) (λ f. absurd (last (f ∙ sym high) h)) λ f. omega arith
  where
    first : c.y ≡ 1 → (c.x ≡ 1) ⊎ (c.x ≡ p.width) → ⊥
    first e (inl f) = nc.upper_left f e
    first e (inr f) = nc.upper_right f e

    last : c.y ≡ p.height → (c.x ≡ 1) ⊎ (c.x ≡ p.width) → ⊥
    last e (inl f) = nc.lower_left f e
    last e (inr f) = nc.lower_right f e

module _ (p : Panel) (s t : Cell) (high : p.height ≡ 3) (wide : 3 ≤ p.width) (os : OnPanel p s) (ot : OnPanel p t) where
  -- terminals further apart in rows than in columns leave the outer columns free
  within : s.x ≤ t.x → NotCorner p s → NotCorner p t → Steep s t → (s.y ≡ t.y → ⊥) × (1 < s.x) × (t.x < p.width)
  within l ns nt h = (
    rows h,
    dite (dec_lt 1 s.x) (λ e. e) (λ e. absurd (first (omega arith))),
    dite (dec_lt t.x p.width) (λ e. e) (λ e. absurd (last (omega arith))),
  )
    where
      rows : Steep s t → s.y ≡ t.y → ⊥
      rows (inl g) e = omega arith
      rows (inr g) e = omega arith

      alone : (s.y ≡ 2) ⊎ (t.y ≡ 2) → (t.x ≡ s.x) × (s.y ≡ t.y → ⊥)
      alone e = lone s t l os.top (omega arith) ot.top (omega arith) e h

      first : s.x ≡ 1 → ⊥
      first e =
          let a = outer_second p s high os ns (inl e) in
          let b = alone (inl a) in
          b.1 (a ∙ sym (outer_second p t high ot nt (inl (b.0 ∙ e))))

      last : t.x ≡ p.width → ⊥
      last e =
          let a = outer_second p t high ot nt (inr e) in
          let b = alone (inr a) in
          b.1 (outer_second p s high os ns (inr (sym b.0 ∙ e)) ∙ sym a)

  module _ (l : s.x ≤ t.x) (ne : Distinct s t) (ns : NotCorner p s) (nt : NotCorner p t) where
    apart_three : {k : ℕ} → k + loss p.width s t ≡ 3 * p.width → Plans p s t k (three_rows_apart p.width s t)
    unfolding three_rows_apart
    apart_three {k} e =
        both_branches (Plans p s t k) (steep s t) _ _
        (λ f.
        let w = within l ns nt (steep_yes s t f) in
        zigzag_three p high os ot (third s t) (omega arith) w.0 l w.1 w.2 e)
        (λ f.
        let near = steep_no s t f in
        both_branches (λ j. Plans p s t k (split p.width 3 s t s.x j)) (free s.x 1 s t) 1 3
        (λ h.
        let w = free_yes s.x 1 s t h in
        split_three p high os ot 1 upper (right near) (λ z. w.0 refl (sym z)) (λ a b. w.1 a (sym b)) e)
        (λ h.
        let w = lower_free near (free_no s.x 1 s t h) in
        split_three p high os ot 3 lower (right near) w.0 w.1 e))
      where
        right : Near s t → s.x < t.x
        right g = dite (ℕ_discrete s.x t.x) (λ z. absurd (ne z (omega arith))) (λ z. omega arith)

        lower_free : Near s t → ((s.x ≡ s.x) × (1 ≡ s.y)) ⊎ ((s.x + 1 ≡ t.x) × (1 ≡ t.y))
            → (s.y ≡ 3 → ⊥) × (s.x + 1 ≡ t.x → t.y ≡ 3 → ⊥)
        lower_free g (inl h) = omega arith
        lower_free g (inr h) = omega arith

    module _ (c : Critical p.width s t) where
      mirrored_three : s.x ≡ t.x → Plans p s t (decided_count p s t) (moving (mirror_x p.width) (λ a b. zigzag p.width a b (third s t)) s t)
      mirrored_three e =
          plan_mirrored os ot
          (zigzag_three p high ((mirror_move p).on s os) ((mirror_move p).on t ot) (third s t)
          (omega arith) w.0 (omega arith) (omega (arith, w.2)) (omega (arith, w.1)) (sum count first second))
        where
          m : ℕ
          m = p.width

          w : (s.y ≡ t.y → ⊥) × (1 < s.x) × (t.x < p.width)
          w = within l ns nt (dite (dec_lt s.y t.y) (λ h. inl (omega arith)) (λ h. inr (omega (arith, ne e))))

          count : decided_count p s t ≡ 3 * m
          count = whole_three p s t high wide c (omega arith) (λ z. absurd (let h : s.x + 1 ≡ t.x = z in omega arith))

          first : (m + 1 - s.x + s.y) % 2 ≡ 0
          first = mirror_white m s.x s.y os.right c.even c.dark

          second : (m + 1 - t.x + t.y + m + 1) % 2 ≡ 0
          second = mirror_black m t.x t.y ot.right c.even c.light

          sum : {k a b : ℕ} → k ≡ 3 * m → a ≡ 0 → b ≡ 0 → k + (a + b) ≡ 3 * m
          sum ek ea eb = omega arith

      crossed_three : s.x % 2 ≡ 0 → s.x + 1 ≡ t.x → Plans p s t (decided_count p s t) (middle p.width s t)
      crossed_three e f =
          let r = outer_pair s.x s.y t.y e c.dark (omega arith) in
          let from = outer s.y os.top (omega arith) r.0 in
          let to = outer t.y ot.top (omega arith) r.1 in
          subst⁻¹ (λ (k : ℕ). Plans p s t k (middle p.width s t)) (whole_three p s t high wide c (omega arith) (λ z. r.0))
          (middle_three p high os ot from to f e c.even)

      -- neither of the two
      far_three : (s.x ≡ t.x → ⊥) → (s.x % 2 ≡ 0 → s.x + 1 ≡ t.x → ⊥) → Far s t
      far_three n f = dite (dec_lt (s.x + 1) t.x) (λ h. inl (omega arith)) (λ h. beside (omega arith) (parity s.x))
        where
          beside : s.x + 1 ≡ t.x → (s.x % 2 ≡ 1) ⊎ (s.x % 2 ≡ 0) → Far s t
          beside e (inl h) =
              let r = middle_pair s.x s.y t.y h c.dark (omega arith) os.top (omega arith) ot.top (omega arith) in
              inr (e, r.0, r.1)
          beside e (inr h) = absurd (f h e)

    pub three_rows_lem : Plans p s t (decided_count p s t) (three_rows p.width s t)
    unfolding three_rows
    three_rows_lem =
        let P : Plan → Type 0 = Plans p s t (decided_count p s t) in
        both_branches P (critical p.width s t) _ _
        (λ e.
        let c = critical_yes p.width s t e in
        if_equal P s.x t.x _ _ (mirrored_three c) λ n.
        both_branches P (next s t) _ _ (λ f. let w = next_yes s t f in crossed_three c w.0 w.1) λ f.
        apart_three (lost_three p s t high wide (λ d. far_three c n (next_no s t f))))
        (λ e. apart_three (lost_three p s t high wide (λ c. absurd (critical_no p.width s t e c))))
