-- The plans for one row and for two rows.
use Prim.Native.Nat.{ℕ, ◌+◌, ◌-◌, ◌*◌, ◌%◌, ◌≤◌, ◌<◌, max}
use mathlib.Core.Path.{◌≡◌, refl, sym, ap, ◌∙◌}
use mathlib.Core.Logic.{⊎_elim, dite}
use mathlib.Core.Bool.{Bool, true, false, not, ◌&&◌, ◌||◌, and-false}
use native.Mathlib.Omega.{arith}
use native.Mathlib.Decide.{ℕ_discrete}
use native.Mathlib.Nat.{mul-one}
use lib.Dec.{eqb}
use borrow.Author.Tests.{eq-eqb, ne_eqb, ltb-true, ltb-false, not-false}
use Rattle.grid.specs.declared.Panel.{Panel}
use Rattle.grid.specs.declared.Cell.{Cell}
use Rattle.grid.specs.Panel.{OnPanel, dist}
use Rattle.grid.proofs.Facts.{and_parts, beside_x}
use Rattle.grid.proofs.Tests.{both_branches}
use Rattle.corner.specs.Corner.{corner_count, track_count}
use Rattle.corner.proofs.Count.{count_flat, count_thin}
use Rattle.count.specs.Count.{area, end_cell, f1, f2}
use Rattle.count.proofs.Laws.{not_f1, not_f2, not_f3}
use Rattle.plan.specs.declared.Plan.{Plan}
use Rattle.plan.specs.declared.Plan.TheVariants.{One}
use Rattle.plan.specs.Leg.{cell, forth, back}
use Rattle.plan.specs.Plan.{split, left_larger, two_rows}
use Rattle.plan.proofs.Cases.{if_equal, if_less, one_of}
use Rattle.plan.proofs.Terminals.{Distinct}
use Rattle.plan.proofs.Size.{block_count, count_block}
use Rattle.plan.proofs.Chain.{Plans, forth_leg, back_leg, left_of, one_leg, two_legs}
use Rattle.plan.proofs.Decided.{decided_count, decided_one, decided_two, decided_odd, decided_even}

-- ---- sizes

pub dist_up : (a b : ℕ) → a ≤ b → dist a b ≡ b - a
unfolding dist
dist_up a b h = omega arith

pub dist_down : (a b : ℕ) → b ≤ a → dist a b ≡ a - b
unfolding dist
dist_down a b h = omega arith

pub dist_none : (a b : ℕ) → a ≡ b → dist a b ≡ 0
unfolding dist
dist_none a b h = omega arith

pub size_row : (a b t : Cell) → a.y ≡ b.y → a.y ≡ t.y → track_count a b t ≡ dist a.x t.x + 1
unfolding track_count
size_row a b t e f = count_flat _ _ _ _ (ap (λ (k : ℕ). k + 1) (dist_none _ _ e))

-- ---- one row

one_area : (p : Panel) → p.height ≡ 1 → area p ≡ p.width
one_area p e = ap (λ (h : ℕ). p.width * h) e ∙ mul-one p.width

-- both terminals are end cells where F1 does not fit
both_ends : (p : Panel) (s t : Cell) → p.height ≡ 1 → f1 p s t ≡ false → (end_cell p s ≡ true) × (end_cell p t ≡ true)
unfolding f1
both_ends p s t h e =
    let one = ap (λ (b : Bool). b && not (end_cell p s && end_cell p t)) (eq-eqb p.height 1 h) in
    and_parts (end_cell p s) (end_cell p t) (not-false _ (sym one ∙ e))

module _ (p : Panel) (s t : Cell) (high : p.height ≡ 1) (os : OnPanel p s) (ot : OnPanel p t) where
  -- the terminals are the row's ends
  whole_row : f1 p s t ≡ false → s.x ≡ 1 → t.x ≡ p.width → s.x < t.x → decided_count p s t ≡ t.x - s.x + 1
  whole_row e a b l =
      let m = one_area p high in
      let n2 = not_f2 p s t (λ (q : p.height ≡ 2). omega arith) in
      let n3 = not_f3 p s t (λ (q : p.height ≡ 3). omega arith) in
      let y : s.y ≡ 1 = omega arith in
      let z : t.y ≡ 1 = omega arith in
      dite (ℕ_discrete (area p % 2) 1)
      (λ (q : area p % 2 ≡ 1). let d = decided_odd p s t e n2 q n3 (omega arith) in omega arith)
      (λ q. let d = decided_even p s t e n2 (omega arith) n3 (omega arith) in omega arith)

  one_count : s.x < t.x → decided_count p s t ≡ t.x - s.x + 1
  one_count l = go (f1 p s t) refl
    where
      go : (b : Bool) → f1 p s t ≡ b → decided_count p s t ≡ t.x - s.x + 1
      go true e = decided_one p s t e
      go false e =
          let q = both_ends p s t high e in
          let from = one_of s.x 1 p.width q.0 in
          let to = one_of t.x 1 p.width q.1 in
          ⊎_elim
          (λ (a : s.x ≡ 1). ⊎_elim (λ (b : t.x ≡ 1). absurd (omega arith)) (λ (b : t.x ≡ p.width). whole_row e a b l) to)
          (λ (a : s.x ≡ p.width). absurd (omega arith))
          from

  pub one_row : s.x ≤ t.x → Distinct s t → Plans p s t (decided_count p s t) (One (forth s t t))
  one_row l d =
      one_leg (forth_leg os ot (omega arith))
      (size_row s t t same same ∙ ap (λ (k : ℕ). k + 1) (dist_up s.x t.x l) ∙ sym (one_count less))
    where
      same : s.y ≡ t.y
      same = omega arith

      less : s.x < t.x
      less = dite (ℕ_discrete s.x t.x) (λ q. absurd (d q same)) (λ q. omega arith)

-- ---- two rows

two_area : (p : Panel) → p.height ≡ 2 → area p ≡ 2 * p.width
two_area p e = ap (λ (h : ℕ). p.width * h) e ∙ (omega arith)

-- in two rows a corner track takes every cell but at most one
two_count : (w h dx dy : ℕ) → h ≡ 2 → dx < w → dy ≤ 1 → 0 < dx + dy → corner_count w h dx dy ≡ 2 * w - 1 + (dx + dy) % 2
unfolding block_count
two_count w h dx dy e p q r =
    dite (ℕ_discrete w 1)
    (λ (z : w ≡ 1). count_thin w h dx dy z (omega arith) (omega arith) ∙ (omega arith))
    (λ z.
    count_block w h dx dy (omega arith) (omega arith) r
    ∙ twice (w * h) w (dx + dy) (ap (λ (k : ℕ). w * k) e ∙ (omega arith)))
  where
    twice : (a b d : ℕ) → a ≡ 2 * b → a - 1 + (a + d) % 2 ≡ 2 * b - 1 + d % 2
    twice a b d f = omega arith

-- the same for a leg, by its distances
two_size : (a b t : Cell) (w dx dy : ℕ)
    → dist a.x b.x + 1 ≡ w → dist a.y b.y ≡ 1 → dist a.x t.x ≡ dx → dist a.y t.y ≡ dy
    → dx < w → dy ≤ 1 → 0 < dx + dy → track_count a b t ≡ 2 * w - 1 + (dx + dy) % 2
unfolding track_count
two_size a b t w dx dy e f g h p q r =
    (λ i. corner_count (e i) (f i + 1) (g i) (h i)) ∙ two_count w 2 dx dy refl p q r

-- the other of the rows 1 and 2, and how far it is
other_row : (y : ℕ) → 1 ≤ y → y ≤ 2 → dist (3 - y) (3 - (3 - y)) ≡ 1
unfolding dist
other_row y p q = omega arith

other_apart : (y : ℕ) → 1 ≤ y → y ≤ 2 → dist (3 - y) y ≡ 1
unfolding dist
other_apart y p q = omega arith

other_far : (y z : ℕ) → 1 ≤ y → y ≤ 2 → 1 ≤ z → z ≤ 2 → (y ≡ z → ⊥) → dist (3 - y) z ≡ 0
unfolding dist
other_far y z p q r s n = omega arith

rows_apart : (y z : ℕ) → 1 ≤ y → y ≤ 2 → 1 ≤ z → z ≤ 2 → (y ≡ z → ⊥) → dist y z ≡ 1
unfolding dist
rows_apart y z p q r s n = omega arith

row_other : (y : ℕ) → 1 ≤ y → y ≤ 2 → dist y (3 - y) ≡ 1
unfolding dist
row_other y p q = omega arith

-- when the second line fits
module _ (p : Panel) (s t : Cell) where
  -- its condition on the terminals
  abbrev beside : Bool
  beside = eqb s.x t.x || (eqb (s.x + 1) t.x && not (eqb s.y t.y))

  f2_not : beside ≡ false → f2 p s t ≡ false
  unfolding f2
  f2_not e = ap (λ (b : Bool). eqb p.height 2 && b) e ∙ and-false (eqb p.height 2)

  pub f2_row : s.x < t.x → s.y ≡ t.y → f2 p s t ≡ false
  f2_row l e =
      let a = ne_eqb s.x t.x (λ (q : s.x ≡ t.x). omega arith) in
      let b = eq-eqb s.y t.y e in
      f2_not ((λ i. a i || (eqb (s.x + 1) t.x && not (b i))) ∙ and-false (eqb (s.x + 1) t.x))

  f2_far : s.x + 1 < t.x → f2 p s t ≡ false
  f2_far l =
      let a = ne_eqb s.x t.x (λ (q : s.x ≡ t.x). omega arith) in
      let b = ne_eqb (s.x + 1) t.x (λ (q : s.x + 1 ≡ t.x). omega arith) in
      f2_not (λ i. a i || (b i && not (eqb s.y t.y)))

  f2_near : p.height ≡ 2 → s.x ≤ t.x → t.x ≤ s.x + 1 → (s.y ≡ t.y → ⊥) → f2 p s t ≡ true
  unfolding f2
  f2_near h l k n = λ i. eq-eqb p.height 2 h i && near i
    where
      near : beside ≡ true
      near =
          dite (ℕ_discrete s.x t.x)
          (λ q. λ i. eq-eqb s.x t.x q i || (eqb (s.x + 1) t.x && not (eqb s.y t.y)))
          (λ q.
          let b = eq-eqb (s.x + 1) t.x (omega arith) in
          let d = ne_eqb s.y t.y n in
          λ i. ne_eqb s.x t.x q i || (b i && not (d i)))

module _ (p : Panel) (s t : Cell) (high : p.height ≡ 2) (os : OnPanel p s) (ot : OnPanel p t) where
  two_s : (1 ≤ s.y) × (s.y ≤ 2)
  two_s = omega arith

  two_t : (1 ≤ t.y) × (t.y ≤ 2)
  two_t = omega arith

  -- split after s's column, over the row that s is not in; its second leg goes dx columns and dy rows
  two_split : (k dx dy : ℕ) → s.x + 1 + dx ≡ t.x → dist (3 - s.y) t.y ≡ dy → 0 < dx + dy → dy ≤ 1
      → k ≡ 2 * p.width - 1 + (dx + dy) % 2 → Plans p s t k (split p.width 2 s t s.x (3 - s.y))
  unfolding split
  two_split k dx dy ex ey some near e =
      two_legs
      (back_leg (omega arith) (omega arith) (omega arith))
      (beside_x refl refl)
      (forth_leg (omega arith) (omega arith) (omega arith))
      (left_of s.x (omega arith))
      (adds p.width s.x (dx + dy) left right os.left (omega arith) e)
    where
      across : dist (3 - s.y) (3 - (3 - s.y)) ≡ 1
      across = other_row s.y two_s.0 two_s.1

      left : track_count (cell s.x (3 - s.y)) (cell 1 (3 - (3 - s.y))) s ≡ 2 * s.x - 1 + (0 + 1) % 2
      left =
          let wide : dist s.x 1 + 1 ≡ s.x = let d = dist_down s.x 1 os.left in omega arith in
          let beside = other_apart s.y two_s.0 two_s.1 in
          two_size _ _ s s.x 0 1 wide across (dist_none _ _ refl) beside os.left (omega arith) (omega arith)

      right : track_count (cell (s.x + 1) (3 - s.y)) (cell p.width (3 - (3 - s.y))) t ≡ 2 * (p.width - s.x) - 1 + (dx + dy) % 2
      right =
          let wide : dist (s.x + 1) p.width + 1 ≡ p.width - s.x = let d = dist_up (s.x + 1) p.width (omega arith) in omega arith in
          let off : dist (s.x + 1) t.x ≡ dx = let d = dist_up (s.x + 1) t.x (omega arith) in omega arith in
          two_size _ _ t (p.width - s.x) dx dy wide across off ey (omega arith) near some

      adds : (m c q : ℕ) {a b j : ℕ} → a ≡ 2 * c - 1 + (0 + 1) % 2 → b ≡ 2 * (m - c) - 1 + q % 2 → 1 ≤ c → c < m → j ≡ 2 * m - 1 + q % 2
          → a + (b + 0) ≡ j
      adds m c q e f g h i = omega arith

  two_even : f2 p s t ≡ false → decided_count p s t + (s.x + s.y + (t.x + t.y) + 1) % 2 ≡ 2 * p.width
  two_even e =
      let a = two_area p high in
      let n1 = not_f1 p s t (λ (q : p.height ≡ 1). omega arith) in
      let n3 = not_f3 p s t (λ (q : p.height ≡ 3). omega arith) in
      decided_even p s t n1 e (omega arith) n3 (omega arith) ∙ a

  two_split_row : s.x < t.x → s.y ≡ t.y → Plans p s t (decided_count p s t) (split p.width 2 s t s.x (3 - s.y))
  two_split_row l e =
      let d : dist (3 - s.y) t.y ≡ 1 = ap (λ (y : ℕ). dist (3 - s.y) y) (sym e) ∙ other_apart s.y two_s.0 two_s.1 in
      let q = two_even (f2_row p s t l e) in
      two_split (decided_count p s t) (t.x - (s.x + 1)) 1 (omega arith) d (omega arith) (omega arith) (omega arith)

  two_split_far : s.x + 1 < t.x → (s.y ≡ t.y → ⊥) → Plans p s t (decided_count p s t) (split p.width 2 s t s.x (3 - s.y))
  two_split_far l n =
      let d = other_far s.y t.y two_s.0 two_s.1 two_t.0 two_t.1 n in
      let r : s.y + t.y ≡ 3 = omega arith in
      let q = two_even (f2_far p s t l) in
      two_split (decided_count p s t) (t.x - (s.x + 1)) 0 (omega arith) d (omega arith) (omega arith) (omega arith)

  -- terminals in one column, or in neighbouring ones and different rows: all columns on the larger side
  module _ (l : s.x ≤ t.x) (near : t.x ≤ s.x + 1) (n : s.y ≡ t.y → ⊥) where
    two_left : (k : ℕ) → 2 ≤ t.x → k ≡ s.x + t.x → Plans p s t k (One (back t (cell 1 (3 - t.y)) s))
    two_left k w e =
        let wide : dist t.x 1 + 1 ≡ t.x = let d = dist_down t.x 1 ot.left in omega arith in
        let across = row_other t.y two_t.0 two_t.1 in
        let off = dist_down t.x s.x l in
        let rows = rows_apart t.y s.y two_t.0 two_t.1 two_s.0 two_s.1 (λ q. n (sym q)) in
        let far = cell 1 (3 - t.y) in
        let size = two_size t far s t.x (t.x - s.x) 1 wide across off rows (omega arith) (omega arith) (omega arith) in
        one_leg (back_leg ot (omega arith) (omega arith)) (size ∙ (omega arith))

    two_right : (k : ℕ) → s.x < p.width → k + (s.x + t.x) ≡ 2 * p.width + 2 → Plans p s t k (One (forth s (cell p.width (3 - s.y)) t))
    two_right k w e =
        let wide : dist s.x p.width + 1 ≡ p.width - s.x + 1 = let d = dist_up s.x p.width os.right in omega arith in
        let across = row_other s.y two_s.0 two_s.1 in
        let off = dist_up s.x t.x l in
        let rows = rows_apart s.y t.y two_s.0 two_s.1 two_t.0 two_t.1 n in
        let far = cell p.width (3 - s.y) in
        let size = two_size s far t (p.width - s.x + 1) (t.x - s.x) 1 wide across off rows (omega arith) (omega arith) (omega arith) in
        one_leg (forth_leg os (omega arith) (omega arith)) (size ∙ (omega arith))

  pub two_rows_lem : 2 ≤ p.width → s.x ≤ t.x → Distinct s t → Plans p s t (decided_count p s t) (two_rows p.width s t)
  unfolding two_rows
  two_rows_lem w l d =
      if_equal P s.y t.y _ _ (λ e. two_split_row (strict e) e) λ n.
      if_less P (s.x + 1) t.x _ _ (λ f. two_split_far f n) λ g.
      let c = decided_two p s t (not_f1 p s t (λ (q : p.height ≡ 1). omega arith)) (f2_near p s t high l g n) in
      both_branches P (left_larger p.width s t) _ _
      (λ e. let m = ltb-true p.width (s.x + t.x) e in two_left l g n _ (omega arith) (c ∙ larger m))
      (λ e. let m = ltb-false p.width (s.x + t.x) e in two_right l g n _ (omega arith) (sums c m))
    where
      P : Plan → Type 0
      P q = Plans p s t (decided_count p s t) q

      strict : s.y ≡ t.y → s.x < t.x
      strict e = dite (ℕ_discrete s.x t.x) (λ q. absurd (d q e)) (λ q. omega arith)

      larger : p.width < s.x + t.x → max (s.x + t.x) (2 * p.width - (s.x + t.x) + 2) ≡ s.x + t.x
      larger m = omega arith

      sums : {k : ℕ} → k ≡ max (s.x + t.x) (2 * p.width - (s.x + t.x) + 2) → s.x + t.x ≤ p.width → k + (s.x + t.x) ≡ 2 * p.width + 2
      sums c m = omega arith
