-- The plan of five legs that goes once around t, the right neighbour of s in an odd column. Of the five only the second and the third may lose a cell:
-- both even sides, or an odd width and an even height; together they lose what the panel does.
use Prim.Native.Nat.{ℕ, ◌+◌, ◌-◌, ◌*◌, ◌≤◌}
use mathlib.Core.Path.{◌≡◌, refl, sym, ap, ◌∙◌, subst₂}
use mathlib.Core.Logic.{dite}
use mathlib.Core.Bool.{Bool, true, false, not, ◌&&◌, ◌||◌, beq, and-false}
use native.Mathlib.Omega.{arith}
use native.Mathlib.Decide.{ℕ_discrete}
use lib.Dec.{eqb}
use borrow.Author.Tests.{eqb-true}
use Rattle.grid.specs.declared.Panel.{Panel}
use Rattle.grid.specs.declared.Cell.{Cell}
use Rattle.grid.specs.Panel.{black, dist}
use Rattle.grid.proofs.Facts.{cell_eq, beside_x, beside_y, beside_sym}
use Rattle.corner.specs.Corner.{track_count}
use Rattle.corner.proofs.Count.{count_here, count_flat, count_thin}
use Rattle.count.specs.Count.{odd}
use Rattle.plan.specs.declared.Leg.{Leg}
use Rattle.plan.specs.Leg.{cell, forth, back, leg_count}
use Rattle.plan.specs.Plan.{wrap, differ}
use Rattle.plan.proofs.Chain.{Plans, forth_leg, back_leg, left_of, right_of, over, under, five_legs}
use Rattle.plan.proofs.Parity.{two, four, same, implies, apply, bit, odd_sum, odd_rest}
use Rattle.plan.proofs.Defect.{loss, distance_odd, block_size, defect, Fits}
use Rattle.plan.proofs.Rows.{dist_none}
use Rattle.plan.proofs.Split.{span_up, span_down}

-- ---- the sizes of two kinds of leg

-- from a corner to the opposite one: a cell is lost where both sides are even
far_size : (a b : Cell) (w h : ℕ) → dist a.x b.x + 1 ≡ w → dist a.y b.y + 1 ≡ h → 2 ≤ w → 1 ≤ h
    → track_count a b b + bit (not (odd w) && not (odd h)) ≡ w * h
unfolding track_count
far_size a b w h e f p q = dite (ℕ_discrete h 1) row block
  where
    dx : ℕ
    dx = dist a.x b.x

    dy : ℕ
    dy = dist a.y b.y

    row : h ≡ 1 → track_count a b b + bit (not (odd w) && not (odd h)) ≡ w * h
    row z =
        let flat = count_flat (dx + 1) (dy + 1) dx dy (f ∙ z) in
        let whole : dx + 1 + 0 ≡ w * 1 = omega arith in
        (λ i. flat i + bit (not (odd w) && not (odd (z i))))
        ∙ ap (λ (b : Bool). dx + 1 + bit b) (and-false (not (odd w))) ∙ whole ∙ ap (λ (k : ℕ). w * k) (sym z)

    parities : differ (black a) (black b) ≡ differ (differ (odd w) true) (differ (odd h) true)
    parities = sym (distance_odd a b) ∙ odd_sum dx dy ∙ (λ i. differ (odd_rest dx 1 w e i) (odd_rest dy 1 h f i))

    lost : loss (odd w) (odd h) (differ (black a) (black b)) ≡ (not (odd w) && not (odd h))
    lost =
        ap (λ (z : Bool). loss (odd w) (odd h) z) parities
        ∙ same _ _ (two (λ w h. beq (loss w h (differ (differ w true) (differ h true))) (not w && not h)) refl (odd w) (odd h))

    block : (h ≡ 1 → ⊥) → track_count a b b + bit (not (odd w) && not (odd h)) ≡ w * h
    block z =
        ap (λ (k : Bool). track_count a b b + bit k) (sym lost)
        ∙ block_size a b b w h e f p (omega arith) (λ u v. let d = dist_none a.x b.x u in omega arith)

-- an odd number of columns, up the last of them: all cells
up_size : (c y : ℕ) → 1 ≤ c → 2 ≤ y → odd c ≡ true → track_count (cell c y) (cell 1 1) (cell c 1) ≡ c * y
unfolding track_count
up_size c y p q o = dite (ℕ_discrete c 1) column block
  where
    high : dist y 1 + 1 ≡ y
    high = span_down y 1 y (omega arith) (omega arith)

    column : c ≡ 1 → track_count (cell c y) (cell 1 1) (cell c 1) ≡ c * y
    column z =
        let one = ap (λ (k : ℕ). k + 1) (dist_none c 1 z) in
        let whole : y ≡ 1 * y = omega arith in
        count_thin (dist c 1 + 1) (dist y 1 + 1) (dist c c) (dist y 1) one (dist_none c c refl) (omega arith)
        ∙ high ∙ whole ∙ ap (λ (k : ℕ). k * y) (sym z)

    up_test : Bool → Bool → Bool
    up_test c y = implies c (beq (loss c y (differ (differ c y) (differ c true))) false)

    block : (c ≡ 1 → ⊥) → track_count (cell c y) (cell 1 1) (cell c 1) ≡ c * y
    block z =
        let wide = span_down c 1 c (omega arith) (omega arith) in
        let g = block_size (cell c y) (cell 1 1) (cell c 1) c y wide high (omega arith) q (λ u v. omega arith) in
        let none = same _ _ (apply (two up_test refl (odd c) (odd y)) o) in
        let l = ap bit ((λ i. loss (odd c) (odd y) (differ (odd_sum c y i) (odd_sum c 1 i))) ∙ none) in
        omega arith

-- ---- the five legs

module _ (p : Panel) (c y : ℕ) where
  -- up the left part, along the rows above, down the right part, and back below: t is left
  abbrev leg1 : Leg
  leg1 = forth (cell c y) (cell 1 1) (cell c 1)

  abbrev leg2 : Leg
  leg2 = forth (cell (c + 1) 1) (cell p.width (y - 1)) (cell p.width (y - 1))

  abbrev leg3 : Leg
  leg3 = forth (cell p.width y) (cell (c + 2) p.height) (cell (c + 2) (y + 2))

  abbrev leg4 : Leg
  leg4 = back (cell (c + 1) (y + 1)) (cell 1 p.height) (cell (c + 1) (y + 2))

  abbrev leg5 : Leg
  leg5 = forth (cell (c + 1) y) (cell (c + 1) y) (cell (c + 1) y)

-- what the second, third and fourth leg lose, by the parities of the column, the panel's sides and the row
abbrev loss2 : Bool → Bool → Bool → Bool → ℕ
loss2 c m n y = bit (not (differ m c) && not (differ y true))

abbrev loss3 : Bool → Bool → Bool → Bool → ℕ
loss3 c m n y =
    bit (loss (differ m (differ c true)) (differ (differ n true) y) (differ (differ m y) (differ (differ c false) (differ y false))))

abbrev loss4 : Bool → Bool → Bool → Bool → ℕ
loss4 c m n y =
    bit (loss (differ c true) (differ n y) (differ (differ (differ c true) (differ y true)) (differ (differ c true) (differ y false))))

-- together what the panel does, c being odd, and n odd or y even
abbrev wrap_test : Bool → Bool → Bool → Bool → Bool
wrap_test c m n y =
    implies c
    (implies (n || not y) (eqb (loss2 c m n y + (loss3 c m n y + loss4 c m n y)) (defect m n (differ c y) (differ (differ c true) y))))

-- the areas, with u columns right of t and v rows below it
wrap_area : (m n c y r u v : ℕ) → c + 1 + u ≡ m → r + 1 + v ≡ n → r + 1 ≡ y
    → c * y + (u + 1) * r + u * (v + 1) + (c + 1) * v + 1 ≡ m * n
wrap_area m n c y r u v e f g =
    let h : c * (r + 1) + (u + 1) * r + u * (v + 1) + (c + 1) * v + 1 ≡ (c + 1 + u) * (r + 1 + v) = omega arith in
    (λ i. c * sym g i + (u + 1) * r + u * (v + 1) + (c + 1) * v + 1) ∙ h ∙ (λ i. e i * f i)

module _ (p : Panel) (c y : ℕ) (left : 1 ≤ c) (right : c + 3 ≤ p.width) (top : 2 ≤ y) (bottom : y + 2 ≤ p.height) where
  -- the panel's width and height
  abbrev m : ℕ
  m = p.width

  abbrev n : ℕ
  n = p.height

  size2 : (u : ℕ) → c + 1 + u ≡ m → leg_count (leg2 p c y) + loss2 (odd c) (odd m) (odd n) (odd y) ≡ (u + 1) * (y - 1)
  size2 u e =
      let a = odd_rest (u + 1) c m (let h : u + 1 + c ≡ m = omega arith in h) in
      let b = odd_rest (y - 1) 1 y (let h : y - 1 + 1 ≡ y = omega arith in h) in
      let wide = span_up (c + 1) m (u + 1) (omega arith) (omega arith) in
      let high = span_up 1 (y - 1) (y - 1) (omega arith) (omega arith) in
      (λ i. leg_count (leg2 p c y) + bit (not (sym a i) && not (sym b i)))
      ∙ far_size (cell (c + 1) 1) (cell m (y - 1)) (u + 1) (y - 1) wide high (omega arith) (omega arith)

  size3 : (u v : ℕ) → c + 1 + u ≡ m → y + v ≡ n → leg_count (leg3 p c y) + loss3 (odd c) (odd m) (odd n) (odd y) ≡ u * (v + 1)
  size3 u v e f =
      let a : u + (c + 1) ≡ m = omega arith in
      let b : v + 1 + y ≡ n + 1 = omega arith in
      let ea = odd_rest u (c + 1) m a ∙ ap (λ (z : Bool). differ (odd m) z) (odd_sum c 1) in
      let eb = odd_rest (v + 1) y (n + 1) b ∙ ap (λ (z : Bool). differ z (odd y)) (odd_sum n 1) in
      let ec = odd_sum m y in
      let ed = odd_sum (c + 2) (y + 2) ∙ (λ i. differ (odd_sum c 2 i) (odd_sum y 2 i)) in
      let wide = span_down m (c + 2) u (omega arith) (omega arith) in
      let high = span_up y n (v + 1) (omega arith) (omega arith) in
      (λ i. leg_count (leg3 p c y) + bit (loss (sym ea i) (sym eb i) (differ (sym ec i) (sym ed i))))
      ∙ block_size (cell m y) (cell (c + 2) n) (cell (c + 2) (y + 2)) u (v + 1) wide high (omega arith) (omega arith) (λ h i. omega arith)

  size4 : (v : ℕ) → y + v ≡ n → leg_count (leg4 p c y) + loss4 (odd c) (odd m) (odd n) (odd y) ≡ (c + 1) * v
  size4 v f =
      let b : v + y ≡ n = omega arith in
      let eb = odd_rest v y n b in
      let ec = odd_sum (c + 1) (y + 1) ∙ (λ i. differ (odd_sum c 1 i) (odd_sum y 1 i)) in
      let ed = odd_sum (c + 1) (y + 2) ∙ (λ i. differ (odd_sum c 1 i) (odd_sum y 2 i)) in
      let wide = span_down (c + 1) 1 (c + 1) (omega arith) (omega arith) in
      let high = span_up (y + 1) n v (omega arith) (omega arith) in
      (λ i. leg_count (leg4 p c y) + bit (loss (sym (odd_sum c 1) i) (sym eb i) (differ (sym ec i) (sym ed i))))
      ∙ block_size (cell (c + 1) (y + 1)) (cell 1 n) (cell (c + 1) (y + 2)) (c + 1) v wide high (omega arith) (omega arith) (λ h i. omega arith)

  size5 : leg_count (leg5 p c y) ≡ 1
  unfolding track_count
  size5 = count_here _ _ (dist (c + 1) (c + 1)) (dist y y) (λ i. dist_none (c + 1) (c + 1) refl i + dist_none y y refl i)

  wrap_size : (k : ℕ) → odd c ≡ true → (odd n || not (odd y)) ≡ true → Fits p (cell c y) (cell (c + 1) y) k
      → leg_count (leg1 p c y) + (leg_count (leg2 p c y) + (leg_count (leg3 p c y) + (leg_count (leg4 p c y) + (leg_count (leg5 p c y) + 0)))) ≡ k
  wrap_size k o h f =
      sum k _ _ _ _ _ _ _ _ _ _ _ _ _ (up_size c y left top o) (size2 u eu) (size3 u v eu ev) (size4 v ev) size5
      (wrap_area m n c y (y - 1) u v eu (omega arith) (omega arith)) (ap (λ (z : ℕ). k + z) lost ∙ f.fits)
    where
      u : ℕ
      u = m - (c + 1)

      v : ℕ
      v = n - y

      eu : c + 1 + u ≡ m
      eu = omega arith

      ev : y + v ≡ n
      ev = omega arith

      es : black (cell c y) ≡ differ (odd c) (odd y)
      es = odd_sum c y

      et : black (cell (c + 1) y) ≡ differ (differ (odd c) true) (odd y)
      et = odd_sum (c + 1) y ∙ ap (λ (z : Bool). differ z (odd y)) (odd_sum c 1)

      lost : loss2 (odd c) (odd m) (odd n) (odd y) + (loss3 (odd c) (odd m) (odd n) (odd y) + loss4 (odd c) (odd m) (odd n) (odd y))
          ≡ defect (odd m) (odd n) (black (cell c y)) (black (cell (c + 1) y))
      lost =
          eqb-true _ _ (apply (apply (four wrap_test refl (odd c) (odd m) (odd n) (odd y)) o) h)
          ∙ (λ i. defect (odd m) (odd n) (sym es i) (sym et i))

      sum : (k t1 t2 t3 t4 t5 b2 b3 b4 a1 a2 a3 a4 q : ℕ) → t1 ≡ a1 → t2 + b2 ≡ a2 → t3 + b3 ≡ a3 → t4 + b4 ≡ a4 → t5 ≡ 1
          → a1 + a2 + a3 + a4 + 1 ≡ q → k + (b2 + (b3 + b4)) ≡ q → t1 + (t2 + (t3 + (t4 + (t5 + 0)))) ≡ k
      sum k t1 t2 t3 t4 t5 b2 b3 b4 a1 a2 a3 a4 q e1 e2 e3 e4 e5 e6 e7 = omega arith

  wrap_at : (k : ℕ) → odd c ≡ true → (odd n || not (odd y)) ≡ true → Fits p (cell c y) (cell (c + 1) y) k
      → Plans p (cell c y) (cell (c + 1) y) k (wrap m n (cell c y) (cell (c + 1) y))
  unfolding wrap
  wrap_at k o h f =
      five_legs
      (forth_leg (omega arith) (omega arith) (omega arith))
      (beside_x refl refl)
      (forth_leg (omega arith) (omega arith) (omega arith))
      (beside_y refl (omega arith))
      (forth_leg (omega arith) (omega arith) (omega arith))
      (beside_sym (beside_x (omega arith) refl))
      (back_leg (omega arith) (omega arith) (omega arith))
      (beside_sym (beside_y refl refl))
      (forth_leg (omega arith) (omega arith) (omega arith))
      (left_of c (omega arith), left_of c (omega arith), over y (omega arith), left_of c (omega arith))
      (over (y - 1) (omega arith), over (y - 1) (omega arith), over (y - 1) (omega arith))
      (right_of (c + 1) (omega arith), right_of (c + 1) (omega arith))
      (under y (omega arith))
      (wrap_size k o h f)

-- once around t, for s and t side by side
module _ (p : Panel) (s t : Cell) (k : ℕ) (e : s.x + 1 ≡ t.x) (f : s.y ≡ t.y) where
  pub wrap_plans : 1 ≤ s.x → s.x + 3 ≤ p.width → 2 ≤ s.y → s.y + 2 ≤ p.height
      → odd s.x ≡ true → (odd p.height || not (odd s.y)) ≡ true
      → Fits p s t k → Plans p s t k (wrap p.width p.height s t)
  wrap_plans left right top bottom o h =
      let es : cell s.x s.y ≡ s = cell_eq refl refl in
      let et : cell (s.x + 1) s.y ≡ t = cell_eq e f in
      subst₂ (λ (u v : Cell). Fits p u v k → Plans p u v k (wrap p.width p.height u v)) es et
      (wrap_at p s.x s.y left right top bottom k o h)
