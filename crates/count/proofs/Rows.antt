-- One row and two rows (F1, F2*). The cells are ranked so that no two have the same rank: by x in one row; in two rows column after column, and
-- in each column the row of t first. A step changes the rank by at most 1, or 2; so the track, which does not come back to s and ends at t,
-- cannot pass them: all its cells have ranks on one side. Cells with different ranks from a + 1 to a + k are at most k.
use Prim.Native.Nat.{ℕ, ◌+◌, ◌-◌, ◌*◌, ◌≤◌, ◌<◌}
use mathlib.Core.Path.{◌≡◌, refl, ap}
use mathlib.Core.Logic.{◌≢◌}
use mathlib.Core.List.{List, map}
use native.Mathlib.Omega.{arith}
use native.Mathlib.Decide.{dec_le, ℕ_discrete}
use lib.ListN.{length, length-map}
use Rattle.grid.specs.declared.Cell.{Cell}
use Rattle.grid.specs.Panel.{Neighbours, cell, dist}
use Rattle.grid.specs.Track.{Walk, All, Once}
use Rattle.grid.proofs.Facts.{beside_is, cell_eq}
use Rattle.grid.proofs.Track.{all_map, all_both, first_in, last_in}
use Rattle.count.specs.Count.{f2_count}
use Rattle.count.proofs.Pigeon.{InColumns, at_most_columns}

-- a step that neither leaves s, nor comes to s, nor leaves t keeps the property P
abbrev Keeps : (R P : Cell → Type 0) → Cell → Cell → Type 0
Keeps R P s t = (a b : Cell) → R a → R b → s ≢ a → s ≢ b → a ≢ t → Neighbours a b → P a → P b

-- so P holds along a walk to t that has no s in it
stays : {R P : Cell → Type 0} {s u t : Cell} {l : List Cell} → Keeps R P s t → Walk u t l → Once l → All R l → All (λ d. s ≢ d) l
    → P u → All P l
stays keep Walk.end o r h p = All.more p All.none
stays keep (Walk.step {a = a} {b = b} n w) (Once.more g o) (All.more r q) (All.more i h) p =
    All.more p (stays keep w o q h (keep a b r (first_in w q) i (first_in w h) (last_in w g) n p))

-- ---- cells with different ranks

module _ {R : Cell → Type 0} (z : Cell → ℕ) (inj : (c d : Cell) → R c → R d → z c ≡ z d → c ≡ d) where
  differ : {c d : Cell} → R c → R d → c ≢ d → z c ≢ z d
  differ r q h e = h (inj _ _ r q e)

  place : Cell → Cell
  place c = cell (z c) 1

  all_placed : {Q : Cell → Type 0} {l : List Cell} → All (λ c. Q (place c)) l → All Q (map place l)
  all_placed All.none = All.none
  all_placed (All.more q a) = All.more q (all_placed a)

  once_placed : {l : List Cell} → Once l → All R l → Once (map place l)
  unfolding place
  once_placed Once.none All.none = Once.none
  once_placed (Once.more h o) (All.more r q) =
      Once.more (all_placed (all_map (λ d x e. differ r x.1 x.0 (ap (λ (c : Cell). c.x) e)) (all_both h q))) (once_placed o q)

  -- ranks from a + 1 to a + k
  ranked : (a k : ℕ) {l : List Cell} → Once l → All R l → All (λ c. (a < z c) × (z c ≤ a + k)) l → length l ≤ k
  unfolding place
  ranked a k {l} o r h =
      let row : All (InColumns a k 1) (map place l) =
      all_placed (all_map (λ c x. record { left = x.0; right = x.1; top = omega arith; bottom = omega arith }) h) in
      omega (arith, at_most_columns a k 1 (once_placed o r) row, length-map l place)

-- ---- one row

row_inj : (m : ℕ) (c d : Cell) → InColumns 0 m 1 c → InColumns 0 m 1 d → c.x ≡ d.x → c ≡ d
row_inj m c d r q e = cell_eq e (omega arith)

-- a step in one row
row_step : (m : ℕ) (a b : Cell) → InColumns 0 m 1 a → InColumns 0 m 1 b → Neighbours a b
    → (a.x ≤ b.x + 1) × (b.x ≤ a.x + 1) × (a.x ≢ b.x)
row_step m a b r q n = let h = beside_is n in omega arith

pub one_row : (m : ℕ) {s t : Cell} {l : List Cell} → s.x < t.x → Walk s t l → Once l → All (InColumns 0 m 1) l → length l ≤ t.x - s.x + 1
one_row m h Walk.end o q = absurd (omega arith)
one_row m {s} {t} h (Walk.step {b = b} {l = l} n w) (Once.more g o) (All.more r q) = elim (dec_le s.x b.x) [
  | yes p ↦ omega (
    arith,
    ranked (λ c. c.x) (row_inj m) s.x (t.x - s.x) o q (all_map (λ c x. (x.0, omega arith))
        (stays right w o q g (omega (arith, row_step m s b r (first_in w q) n)))),
  )
  | no p ↦ let x : t.x < s.x = last_in w (stays left w o q g (omega arith)) in absurd (omega arith)
]
  where
    last : InColumns 0 m 1 t
    last = last_in w q

    right : Keeps (InColumns 0 m 1) (λ c. (s.x < c.x) × (c.x ≤ t.x)) s t
    right a b u v i j k e x = omega (arith, row_step m a b u v e, differ (λ c. c.x) (row_inj m) r v j, differ (λ c. c.x) (row_inj m) u last k)

    left : Keeps (InColumns 0 m 1) (λ c. c.x < s.x) s t
    left a b u v i j k e x = omega (arith, row_step m a b u v e, differ (λ c. c.x) (row_inj m) r v j)

-- ---- two rows

-- how far a row is from that of t: 0 or 1
dist_one : (a b : ℕ) → 1 ≤ a → a ≤ 2 → 1 ≤ b → b ≤ 2 → dist a b ≤ 1
unfolding dist
dist_one a b p q r s = omega arith

dist_inj : (a b c : ℕ) → 1 ≤ a → a ≤ 2 → 1 ≤ b → b ≤ 2 → 1 ≤ c → c ≤ 2 → dist a c ≡ dist b c → a ≡ b
unfolding dist
dist_inj a b c p q r s u v e = omega arith

dist_zero : (a : ℕ) → dist a a ≡ 0
unfolding dist
dist_zero a = omega arith

dist_other : (a b : ℕ) → 1 ≤ a → a ≤ 2 → 1 ≤ b → b ≤ 2 → a ≢ b → dist a b ≡ 1
unfolding dist
dist_other a b p q r s h = omega arith

-- a step changes x by at most 1 and stays in its column or in its row
step_either : (a b : Cell) → Neighbours a b → (a.x ≤ b.x + 1) × (b.x ≤ a.x + 1) × (a.x ≢ b.x → a.y ≡ b.y)
step_either a b n = let h = beside_is n in omega arith

-- column after column, the row of t first
rank : Cell → Cell → ℕ
rank t c = 2 * c.x + dist c.y t.y

-- a step of at most 2 does not pass two neighbouring ranks that it may not come to or leave
same_side : (s t a b : ℕ) → s ≢ t → s ≤ t + 1 → t ≤ s + 1 → s ≢ a → s ≢ b → a ≢ t → a ≤ b + 2 → b ≤ a + 2
    → (a ≤ t → b ≤ t) × (t ≤ a → t ≤ b)
same_side s t a b h i j d e f k l = omega arith

-- terminals in different rows of one column, or of s's column and the next
module _ (m : ℕ) (s t : Cell) (rs : InColumns 0 m 2 s) (rt : InColumns 0 m 2 t)
    (h : s.y ≢ t.y) (i : s.x ≤ t.x) (j : t.x ≤ s.x + 1) where
  row : (c : Cell) → InColumns 0 m 2 c → dist c.y t.y ≤ 1
  row c r = dist_one _ _ r.top r.bottom rt.top rt.bottom

  rank_inj : (c d : Cell) → InColumns 0 m 2 c → InColumns 0 m 2 d → rank t c ≡ rank t d → c ≡ d
  unfolding rank
  rank_inj c d r q e =
      let x : c.x ≡ d.x = omega (arith, row c r, row d q) in
      cell_eq x (dist_inj _ _ t.y r.top r.bottom q.top q.bottom rt.top rt.bottom (omega arith))

  rank_step : (a b : Cell) → InColumns 0 m 2 a → InColumns 0 m 2 b → Neighbours a b
      → (rank t a ≤ rank t b + 2) × (rank t b ≤ rank t a + 2)
  unfolding rank
  rank_step a b r q n = let x = step_either a b n in elim (ℕ_discrete a.x b.x) [
    | yes e ↦ omega (arith, row a r, row b q)
    | no e ↦ omega (arith, ap (λ (k : ℕ). dist k t.y) (x.2 e))
  ]

  rank_range : (c : Cell) → InColumns 0 m 2 c → (1 < rank t c) × (rank t c ≤ 2 * m + 1)
  unfolding rank
  rank_range c r = omega (arith, row c r)

  rank_ends : (rank t s ≡ 2 * s.x + 1) × (rank t t ≡ 2 * t.x)
  unfolding rank
  rank_ends = omega (arith, dist_zero t.y, dist_other s.y t.y rs.top rs.bottom rt.top rt.bottom h)

  step_side : (a b : Cell) → InColumns 0 m 2 a → InColumns 0 m 2 b → s ≢ a → s ≢ b → a ≢ t → Neighbours a b
      → (rank t a ≤ rank t t → rank t b ≤ rank t t) × (rank t t ≤ rank t a → rank t t ≤ rank t b)
  step_side a b u v d e f n =
      let k = rank_step a b u v n in
      let ends = rank_ends in
      same_side (rank t s) (rank t t) (rank t a) (rank t b) (omega arith) (omega arith) (omega arith)
      (differ (rank t) rank_inj rs u d) (differ (rank t) rank_inj rs v e) (differ (rank t) rank_inj u rt f) k.0 k.1

  left : Keeps (InColumns 0 m 2) (λ c. rank t c ≤ rank t t) s t
  left a b u v d e f n = (step_side a b u v d e f n).0

  right : Keeps (InColumns 0 m 2) (λ c. rank t t ≤ rank t c) s t
  right a b u v d e f n = (step_side a b u v d e f n).1

  -- s and the cells after it, all with ranks from a + 1 to a + k
  counted : {P : Cell → Type 0} {u : Cell} {l : List Cell} (a k : ℕ) → Keeps (InColumns 0 m 2) P s t
      → ((c : Cell) → P c → (1 < rank t c) × (rank t c ≤ 2 * m + 1) → (a < rank t c) × (rank t c ≤ a + k))
      → (a < rank t s) × (rank t s ≤ a + k)
      → Walk u t l → Once l → All (InColumns 0 m 2) l → All (λ d. s ≢ d) l → P u → length l < k
  counted a k keep range first w o q g p =
      ranked (rank t) rank_inj a k (Once.more g o) (All.more rs q)
      (All.more first (all_map (λ c x. range c x.1 (rank_range c x.0)) (all_both q (stays keep w o q g p))))

  either_side : {u : Cell} {l : List Cell} → Walk u t l → Once l → All (InColumns 0 m 2) l → All (λ d. s ≢ d) l
      → length l < f2_count m (s.x + t.x)
  either_side {u} w o q g =
      let e = rank_ends in
      let r = rank_range s rs in
      elim (dec_le (rank t u) (rank t t)) [
        | yes p ↦ omega (arith, counted 1 (s.x + t.x) left (λ c x y. omega arith) (omega arith) w o q g p)
        | no p ↦ omega (arith, counted (s.x + t.x - 1) (2 * m - (s.x + t.x) + 2) right (λ c x y. omega arith) (omega arith) w o q g (omega arith))
      ]

pub two_rows_lem : (m : ℕ) {s t : Cell} {l : List Cell} → s.y ≢ t.y → s.x ≤ t.x → t.x ≤ s.x + 1
    → Walk s t l → Once l → All (InColumns 0 m 2) l → length l ≤ f2_count m (s.x + t.x)
two_rows_lem m h i j Walk.end o q = absurd (h refl)
two_rows_lem m {s} {t} h i j (Walk.step n w) (Once.more g o) (All.more r q) = either_side m s t r (last_in w q) h i j w o q g
