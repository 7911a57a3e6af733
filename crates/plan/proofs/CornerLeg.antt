-- A terminal in a corner of the panel: one leg over the whole panel. It leaves out what a longest track does, since a corner of a panel with odd
-- sides is white, and F3 never holds with a terminal in a corner.
use Prim.Native.Nat.{ℕ, ◌+◌, ◌-◌, ◌≤◌, min, max}
use mathlib.Core.Path.{◌≡◌, refl, sym, ap, ◌∙◌}
use mathlib.Core.Logic.{◌⊎◌, inl, inr, ⊎_elim}
use mathlib.Core.Bool.{Bool, true, false, not, ◌&&◌, ◌||◌, true≢false}
use native.Mathlib.Omega.{arith}
use lib.Dec.{eqb}
use borrow.Author.Tests.{eq-eqb, eqb-true}
use Rattle.grid.specs.declared.Panel.{Panel}
use Rattle.grid.specs.declared.Cell.{Cell}
use Rattle.grid.specs.Panel.{OnPanel, dist, black}
use Rattle.grid.proofs.Facts.{and_parts}
use Rattle.line.specs.Rectangle.{Inside}
use Rattle.corner.specs.Corner.{track_count}
use Rattle.count.specs.Count.{odd, f3}
use Rattle.count.proofs.F3.{ThreeApart, no_f3}
use Rattle.plan.specs.Leg.{cell, forth, back}
use Rattle.plan.specs.Plan.{corner, differ}
use Rattle.plan.specs.declared.Plan.TheVariants.{One}
use Rattle.plan.proofs.Cases.{one_of, or_left, or_right}
use Rattle.plan.proofs.Parity.{four, implies, apply, bit, colour}
use Rattle.plan.proofs.Decided.{decided_count}
use Rattle.plan.proofs.Defect.{loss, block_size, defect, Fits, fits_exchanged, fits_decided}
use Rattle.plan.proofs.Chain.{Plans, forth_leg, back_leg, one_leg}
use Rattle.plan.proofs.Terminals.{Distinct, NotCorner}

-- ---- corners of the panel

pub record Corner (p : Panel) (c : Cell) : Type 0 where
  pub side : (c.x ≡ 1) ⊎ (c.x ≡ p.width)
  pub level : (c.y ≡ 1) ⊎ (c.y ≡ p.height)

module _ (p : Panel) (c : Cell) where
  -- the two tests
  abbrev outer_column : Bool
  outer_column = eqb c.x 1 || eqb c.x p.width

  abbrev outer_row : Bool
  outer_row = eqb c.y 1 || eqb c.y p.height

  pub is_corner : corner p.width p.height c ≡ true → Corner p c
  is_corner e =
      let h = and_parts outer_column outer_row e in
      record { side = one_of c.x 1 p.width h.0; level = one_of c.y 1 p.height h.1 }

  pub no_corner : corner p.width p.height c ≡ false → NotCorner p c
  no_corner e = record {
    upper_left = λ a b. neither (left a) (top b);
    upper_right = λ a b. neither (right a) (top b);
    lower_left = λ a b. neither (left a) (bottom b);
    lower_right = λ a b. neither (right a) (bottom b);
  }
    where
      neither : outer_column ≡ true → outer_row ≡ true → ⊥
      neither q r = true≢false ((λ i. sym q i && sym r i) ∙ e)

      left : c.x ≡ 1 → outer_column ≡ true
      left a = or_left _ (eq-eqb c.x 1 a)

      right : c.x ≡ p.width → outer_column ≡ true
      right a = or_right (eqb c.x 1) (eq-eqb c.x p.width a)

      top : c.y ≡ 1 → outer_row ≡ true
      top a = or_left _ (eq-eqb c.y 1 a)

      bottom : c.y ≡ p.height → outer_row ≡ true
      bottom a = or_right (eqb c.y 1) (eq-eqb c.y p.height a)

-- ---- the leg

span : (m a : ℕ) → 1 ≤ m → (a ≡ 1) ⊎ (a ≡ m) → dist a (m + 1 - a) + 1 ≡ m
unfolding dist
span m a h (inl e) = omega arith
span m a h (inr e) = omega arith

spans_low : (m a c : ℕ) → 1 ≤ c → (a ≡ 1) ⊎ (a ≡ m) → min a (m + 1 - a) ≤ c
spans_low m a c h (inl e) = omega arith
spans_low m a c h (inr e) = omega arith

spans_high : (m a c : ℕ) → c ≤ m → (a ≡ 1) ⊎ (a ≡ m) → c ≤ max a (m + 1 - a)
spans_high m a c h (inl e) = omega arith
spans_high m a c h (inr e) = omega arith

-- the corner opposite to a
abbrev over : Panel → Cell → Cell
over p a = cell (p.width + 1 - a.x) (p.height + 1 - a.y)

over_on : (p : Panel) (a : Cell) → OnPanel p a → OnPanel p (over p a)
over_on p a o = omega arith

over_inside : (p : Panel) (a c : Cell) → Corner p a → OnPanel p c → Inside a (over p a) c
over_inside p a c k o = record {
  left = spans_low p.width a.x c.x o.left k.side;
  right = spans_high p.width a.x c.x o.right k.side;
  top = spans_low p.height a.y c.y o.top k.level;
  bottom = spans_high p.height a.y c.y o.bottom k.level;
}

-- a number that is 1 or m is odd where m is
end_odd : (m a : ℕ) → (a ≡ 1) ⊎ (a ≡ m) → odd m ≡ true → odd a ≡ true
end_odd m a (inl e) o = ap odd e
end_odd m a (inr e) o = ap odd e ∙ o

-- a corner of a panel with odd sides is white
corner_white : (p : Panel) (a : Cell) → Corner p a → implies (odd p.width && odd p.height) (not (black a)) ≡ true
corner_white p a k = go (odd p.width) (odd p.height) refl refl
  where
    go : (w h : Bool) → odd p.width ≡ w → odd p.height ≡ h → implies (w && h) (not (black a)) ≡ true
    go true true e f =
        let x = end_odd p.width a.x k.side e in
        let y = end_odd p.height a.y k.level f in
        ap not (colour a ∙ (λ i. differ (x i) (y i)))
    go true false e f = refl
    go false h e f = refl

-- so the leg leaves out what the longest track does
same_loss : (m n a c : Bool) → implies (m && n) (not a) ≡ true → bit (loss m n (differ a c)) ≡ defect m n a c
same_loss m n a c e = eqb-true _ _ (apply (four test refl m n a c) e)
  where
    test : Bool → Bool → Bool → Bool → Bool
    test m n a c = implies (implies (m && n) (not a)) (eqb (bit (loss m n (differ a c))) (defect m n a c))

same_sum : {a b k : ℕ} (c : ℕ) → a + c ≡ k → b + c ≡ k → a ≡ b
same_sum c e f = omega arith

module _ (p : Panel) (m : 3 ≤ p.width) (n : 3 ≤ p.height) where
  over_size : (a c : Cell) (k : ℕ) → Corner p a → Distinct a c → Fits p a c k → track_count a (over p a) c ≡ k
  over_size a c k r d f =
      let w = span p.width a.x (omega arith) r.side in
      let h = span p.height a.y (omega arith) r.level in
      let lost = same_loss (odd p.width) (odd p.height) (black a) (black c) (corner_white p a r) in
      same_sum _
      (ap (λ (z : ℕ). track_count a (over p a) c + z) (sym lost)
      ∙ block_size a (over p a) c p.width p.height w h (omega arith) (omega arith) d)
      f.fits

-- ---- either terminal in a corner

-- F3 holds with no terminal in a corner
f3_from : (p : Panel) (s t : Cell) → OnPanel p t → Corner p s → f3 p s t ≡ false
f3_from p s t ot k =
    no_f3 p s t λ f.
    ⊎_elim (λ (q : s.x ≡ 1). level f q k.level) (λ (q : s.x ≡ p.width). omega (arith, f.odd_column, ot.right)) k.side
  where
    level : ThreeApart p s t → s.x ≡ 1 → (s.y ≡ 1) ⊎ (s.y ≡ p.height) → ⊥
    level f q (inl r) = omega (arith, f.dark)
    level f q (inr r) = omega (arith, f.dark, f.rows)

f3_to : (p : Panel) (s t : Cell) → OnPanel p s → Corner p t → f3 p s t ≡ false
f3_to p s t os k =
    no_f3 p s t λ f.
    ⊎_elim (λ (q : t.x ≡ 1). omega (arith, f.odd_column, os.left)) (λ (q : t.x ≡ p.width). level f q k.level) k.side
  where
    level : ThreeApart p s t → t.x ≡ p.width → (t.y ≡ 1) ⊎ (t.y ≡ p.height) → ⊥
    level f q (inl r) = omega (arith, f.light, f.even)
    level f q (inr r) = omega (arith, f.light, f.even, f.rows)

module _ (p : Panel) (s t : Cell) (m : 3 ≤ p.width) (n : 3 ≤ p.height) (os : OnPanel p s) (ot : OnPanel p t) (d : Distinct s t) where
  pub from_corner : Corner p s → Plans p s t (decided_count p s t) (One (forth s (over p s) t))
  from_corner k =
      one_leg (forth_leg os (over_on p s os) (over_inside p s t k ot))
      (over_size p m n s t _ k d (fits_decided p s t m n (f3_from p s t ot k)))

  pub to_corner : Corner p t → Plans p s t (decided_count p s t) (One (back t (over p t) s))
  to_corner k =
      one_leg (back_leg ot (over_on p t ot) (over_inside p t s k os))
      (over_size p m n t s _ k (λ x y. d (sym x) (sym y)) (fits_exchanged (fits_decided p s t m n (f3_to p s t os k))))
