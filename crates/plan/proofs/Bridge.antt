-- The plan of three legs for m even, s black and t white: the rows from 3 on split after an even column, joined by rows 1 and 2. Each block has an
-- even area and a track between two colours, so that no cell is lost.
use Prim.Native.Nat.{ℕ, ◌+◌, ◌-◌, ◌*◌, ◌≤◌, ◌<◌}
use mathlib.Core.Path.{◌≡◌, refl, sym, ap, ◌∙◌}
use mathlib.Core.Bool.{Bool, true, false, not}
use native.Mathlib.Omega.{arith}
use Rattle.grid.specs.declared.Panel.{Panel}
use Rattle.grid.specs.declared.Cell.{Cell}
use Rattle.grid.specs.Panel.{OnPanel, black, dist}
use Rattle.grid.proofs.Facts.{beside_y, beside_sym}
use Rattle.corner.specs.Corner.{track_count}
use Rattle.count.specs.Count.{odd}
use Rattle.plan.specs.Leg.{cell}
use Rattle.plan.specs.Plan.{bridge, differ}
use Rattle.plan.proofs.Chain.{Plans, forth_leg, back_leg, left_of, over, under, three_legs}
use Rattle.plan.proofs.Parity.{bit, odd_sum, odd_rest}
use Rattle.plan.proofs.Defect.{loss, block_size, defect, Fits}
use Rattle.plan.proofs.Split.{span_up, span_down, ne_colour}

-- a track between two colours loses nothing in an even number of columns
even_size : (a b t : Cell) (w h : ℕ) → dist a.x b.x + 1 ≡ w → dist a.y b.y + 1 ≡ h → 2 ≤ w → 2 ≤ h
    → odd w ≡ false → differ (black a) (black t) ≡ true → track_count a b t ≡ w * h
even_size a b t w h e f p q o d =
    let none = ap bit (λ i. loss (o i) (odd h) (d i)) in
    let all : track_count a b t + 0 ≡ w * h = sym (ap (λ (k : ℕ). track_count a b t + k) none) ∙ block_size a b t w h e f p q (ne_colour a t d) in
    omega arith

-- the areas, with c and d columns and h rows below the bridge
bridge_area : (m n c d h : ℕ) → c + d ≡ m → 2 + h ≡ n → c * h + (m * 2 + d * h) ≡ m * n
bridge_area m n c d h e f =
    let g : c * h + ((c + d) * 2 + d * h) ≡ (c + d) * (2 + h) = omega arith in
    ap (λ (z : ℕ). c * h + (z * 2 + d * h)) (sym e) ∙ g ∙ (λ i. e i * f i)

module _ (p : Panel) (s t : Cell) (c k : ℕ) (two≤ : 2 ≤ c) (wide : c + 2 ≤ p.width) (high : 4 ≤ p.height) where
  bridge_size : odd c ≡ false → odd p.width ≡ false → black s ≡ true → black t ≡ false → Fits p s t k
      → track_count (cell 1 3) (cell c p.height) s
      + (track_count (cell 1 2) (cell p.width 1) (cell p.width 2) + (track_count (cell p.width 3) (cell (c + 1) p.height) t + 0))
      ≡ k
  bridge_size ec em es et f =
      let m = p.width in
      let n = p.height in
      let h = n - 2 in
      let d = m - c in
      let ed : odd d ≡ false = odd_rest d c m (let q : d + c ≡ m = omega arith in q) ∙ (λ i. differ (em i) (ec i)) in
      let c1 : differ (black (cell 1 3)) (black s) ≡ true = ap (λ (z : Bool). differ false z) es in
      let c2 : differ (black (cell 1 2)) (black (cell m 2)) ≡ true = ap not (odd_sum m 2 ∙ ap (λ (z : Bool). differ z false) em) in
      let c3 : differ (black (cell m 3)) (black t) ≡ true = λ i. differ ((odd_sum m 3 ∙ ap (λ (z : Bool). differ z true) em) i) (et i) in
      let rows = span_up 3 n h (omega arith) (omega arith) in
      let w1 = span_up 1 c c (omega arith) (omega arith) in
      let w2 = span_up 1 m m (omega arith) (omega arith) in
      let w3 = span_down m (c + 1) d (omega arith) (omega arith) in
      let s1 = even_size (cell 1 3) (cell c n) s c h w1 rows two≤ (omega arith) ec c1 in
      let s2 = even_size (cell 1 2) (cell m 1) (cell m 2) m 2 w2 (span_down 2 1 2 (omega arith) (omega arith)) (omega arith) (omega arith) em c2 in
      let s3 = even_size (cell m 3) (cell (c + 1) n) t d h w3 rows (omega arith) (omega arith) ed c3 in
      let full : k + 0 ≡ m * n = sym (λ i. k + defect (em i) (odd n) (es i) (et i)) ∙ f.fits in
      sum s1 s2 s3 (bridge_area m n c d h (omega arith) (omega arith)) full
    where
      sum : {k t1 t2 t3 a1 a2 a3 q : ℕ} → t1 ≡ a1 → t2 ≡ a2 → t3 ≡ a3 → a1 + (a2 + a3) ≡ q → k + 0 ≡ q → t1 + (t2 + (t3 + 0)) ≡ k
      sum e1 e2 e3 e4 e5 = omega arith

  pub bridge_plans : OnPanel p s → OnPanel p t → s.x ≤ c → c < t.x → 3 ≤ s.y → 3 ≤ t.y
      → odd c ≡ false → odd p.width ≡ false → black s ≡ true → black t ≡ false → Fits p s t k
      → Plans p s t k (bridge p.width p.height s t c)
  unfolding bridge
  bridge_plans os ot left right under-s under-t ec em es et f =
      three_legs
      (back_leg (omega arith) (omega arith) (omega arith))
      (beside_sym (beside_y refl refl))
      (forth_leg (omega arith) (omega arith) (omega arith))
      (beside_y refl refl)
      (forth_leg (omega arith) (omega arith) (omega arith))
      (under 2 (omega arith), left_of c (omega arith))
      (over 2 (omega arith))
      (bridge_size ec em es et f)
