-- The count of a corner track, computed for some and then by law: the lines that go first, and the track of what remains, have the count's cells together.
-- Outside the degenerate cases w * h + dx + dy keeps its parity when a row is taken away, so the rest is linear with w * h as an unknown.
use Prim.Native.Nat.{ℕ, ◌+◌, ◌-◌, ◌*◌, ◌/◌, ◌%◌, ◌≤◌, ◌<◌}
use mathlib.Core.Path.{◌≡◌, refl, sym, ap, ◌∙◌}
use mathlib.Core.Logic.{◌≢◌}
use mathlib.Core.List.{[], ◌∷◌}
use native.Mathlib.Omega.{arith}
use native.Mathlib.Nat.{mul_comm, mul-one, mul-suc, mul-add, mul-pos}
use native.Mathlib.Numerals.{add-one}
use lib.Dec.{ltb, eqb}
use lib.ListN.{length}
use borrow.Author.Tests.{eq-eqb, ne_eqb, eqb-true, eqb-false, ltb-true, ltb-false}
use Rattle.grid.specs.declared.Cell.{Cell}
use Rattle.grid.specs.Panel.{cell, dist}
use Rattle.grid.specs.Bytes.{bytes}
use Rattle.grid.proofs.Tests.{cond_yes, cond_no, both_branches}
use Rattle.line.specs.Rectangle.{ahead, turning}
use Rattle.line.specs.Sweep.{sweep}
use Rattle.line.proofs.Between.{by_eq}
use Rattle.corner.specs.declared.Lines.{Lines}
use Rattle.corner.specs.Corner.{corner_count, track_count}
use Rattle.corner.specs.Cells.{chosen, peeled, corner_cells}
use Rattle.corner.specs.Peel.{Open}
use Rattle.corner.proofs.Chosen.{Turned, First, GoFirst}

-- ---- some corner tracks, computed: a wrong choice of lines, or another one with as many cells, shows here by its numbers

-- by how many cells the track from the corner (1, 1) of 4 by 3 cells to one of them misses the count
abbrev off : Cell → ℕ
off t = dist (length (corner_cells (cell 1 1) (cell 4 3) t)) (track_count (cell 1 1) (cell 4 3) t)

corners_counted : off (cell 2 1) + off (cell 1 2) + off (cell 3 2) + off (cell 4 2) + off (cell 2 3) + off (cell 4 3) ≡ 0
unfolding dist ahead turning sweep chosen peeled corner_cells corner_count track_count
corners_counted = refl

-- 3 by 3 to the opposite corner, rows first; 2 by 3, upright, to the corner below
corners_shown : (bytes (corner_cells (cell 1 1) (cell 3 3) (cell 3 3)) ≡ 1 ∷ 1 ∷ 2 ∷ 1 ∷ 3 ∷ 1 ∷ 3 ∷ 2 ∷ 2 ∷ 2 ∷ 1 ∷ 2 ∷ 1 ∷ 3 ∷ 2 ∷ 3 ∷ 3 ∷ 3 ∷ [])
    × (bytes (corner_cells (cell 1 1) (cell 2 3) (cell 1 3)) ≡ 1 ∷ 1 ∷ 2 ∷ 1 ∷ 2 ∷ 2 ∷ 1 ∷ 2 ∷ 1 ∷ 3 ∷ [])
unfolding dist ahead turning sweep chosen peeled corner_cells
corners_shown = (refl, refl)

-- ---- the count, case by case

pub count_here : (w h dx dy : ℕ) → dx + dy ≡ 0 → corner_count w h dx dy ≡ 1
unfolding corner_count
count_here w h dx dy e = sym (cond_yes _ _ (eq-eqb _ _ e) refl)

-- one row
pub count_flat : (w h dx dy : ℕ) → h ≡ 1 → corner_count w h dx dy ≡ dx + 1
unfolding corner_count
count_flat w h dx dy e =
    by_eq (dx + dy) 0
    (λ z. count_here w h dx dy z ∙ omega arith)
    (λ z. sym (cond_no _ _ (ne_eqb _ _ z) (cond_yes _ _ (eq-eqb _ _ e) refl)))

-- one column
pub count_thin : (w h dx dy : ℕ) → w ≡ 1 → dx ≡ 0 → dy < h → corner_count w h dx dy ≡ dy + 1
unfolding corner_count
count_thin w h dx dy e d l =
    by_eq (dx + dy) 0
    (λ z. count_here w h dx dy z ∙ omega arith)
    (λ z. by_eq h 1
    (λ f. count_flat w h dx dy f ∙ omega arith)
    (λ f. sym (cond_no _ _ (ne_eqb _ _ z) (cond_no _ _ (ne_eqb _ _ f) (cond_yes _ _ (eq-eqb _ _ e) refl)))))

-- two rows and two columns or more
pub count_full : (w h dx dy : ℕ) → dx + dy ≢ 0 → w ≢ 1 → h ≢ 1 → corner_count w h dx dy ≡ w * h - 1 + (w * h + (dx + dy)) % 2
unfolding corner_count
count_full w h dx dy z e f = sym (cond_no _ _ (ne_eqb _ _ z) (cond_no _ _ (ne_eqb _ _ f) (cond_no _ _ (ne_eqb _ _ e) refl)))

-- columns and rows exchanged
pub count_turned : (w h dx dy : ℕ) → dx < w → dy < h → corner_count w h dx dy ≡ corner_count h w dy dx
count_turned w h dx dy x y =
    by_eq (dx + dy) 0
    (λ z. count_here w h dx dy z ∙ sym (count_here h w dy dx (omega arith)))
    (λ z. by_eq w 1
    (λ e. count_thin w h dx dy e (omega arith) y ∙ sym (count_flat h w dy dx e))
    (λ e. by_eq h 1
    (λ f. count_flat w h dx dy f ∙ sym (count_thin h w dy dx f (omega arith) x))
    (λ f. count_full w h dx dy z e f ∙ products ∙ sym (count_full h w dy dx (omega arith) f e))))
  where
    products : w * h - 1 + (w * h + (dx + dy)) % 2 ≡ h * w - 1 + (h * w + (dy + dx)) % 2
    products = let e = mul_comm w h in omega arith

-- ---- a row taken away

-- w columns and h + 1 rows, the target dx columns and dy + 1 rows away, and ex columns from the row's other end
same_parity : (p w dx ex dy : ℕ) → 1 ≤ p → dx + ex + 1 ≡ w → p + w - 1 + (p + w + (dx + (dy + 1))) % 2 ≡ w + (p - 1 + (p + (ex + dy)) % 2)
same_parity p w dx ex dy l e =
    let f : (p + w + (dx + (dy + 1))) % 2 ≡ (p + (ex + dy)) % 2 = omega arith in
    omega arith

-- when the row from the corner may go first
row_right : (w h dx dy : ℕ) → dx < w → dy < h → 1 ≤ dy → (h ≡ 2 → dx ≤ 1) → (h ≢ 2 → w ≢ 1 → w + dy ≢ dx + 2)
    → First 1 w h dx dy
row_right w h dx dy x y l two many = record {
  some = omega arith;
  far = l;
  counts = λ k ex ey f t d. go k ex ey f (other t) d ∙ ap (λ (i : ℕ). i + corner_count w k ex ey) (sym (mul-one w));
}
  where
    other : {ex : ℕ} → Turned 1 w dx ex → dx + ex + 1 ≡ w
    other (Turned.even e f) = absurd (omega arith)
    other (Turned.odd e f) = f

    thin : (k ex ey : ℕ) → h ≡ k + 1 → dx + ex + 1 ≡ w → dy ≡ ey + 1 → w ≡ 1 → corner_count w h dx dy ≡ w + corner_count w k ex ey
    thin k ex ey f g d e = let r = count_thin w k ex ey e (omega arith) (omega arith) in count_thin w h dx dy e (omega arith) y ∙ omega arith

    flat : (k ex ey : ℕ) → h ≡ k + 1 → dx + ex + 1 ≡ w → dy ≡ ey + 1 → w ≢ 1 → h ≡ 2
        → corner_count w h dx dy ≡ w + corner_count w k ex ey
    flat k ex ey f g d e z =
        let r = count_flat w k ex ey (omega arith) in
        let s = count_full w h dx dy (omega arith) e (omega arith) in
        let p : w * h ≡ w * 2 = ap (λ (i : ℕ). w * i) z in
        let q = two z in
        omega arith

    full : (k ex ey : ℕ) → h ≡ k + 1 → dx + ex + 1 ≡ w → dy ≡ ey + 1 → w ≢ 1 → h ≢ 2
        → corner_count w h dx dy ≡ w + corner_count w k ex ey
    full k ex ey f g d e z =
        let p : w * h ≡ w * k + w = ap (λ (i : ℕ). w * i) (f ∙ add-one k) ∙ mul-suc w k in
        let o : 0 < w * k = mul-pos (omega arith) (omega arith) in
        let n = many z e in
        let r = count_full w k ex ey (omega arith) e (omega arith) in
        let s = count_full w h dx dy (omega arith) e (omega arith) in
        s ∙ (λ i. p i - 1 + (p i + (dx + d i)) % 2) ∙ same_parity (w * k) w dx ex ey o g ∙ ap (λ (i : ℕ). w + i) (sym r)

    go : (k ex ey : ℕ) → h ≡ k + 1 → dx + ex + 1 ≡ w → dy ≡ ey + 1 → corner_count w h dx dy ≡ w + corner_count w k ex ey
    go k ex ey f g d = by_eq w 1 (thin k ex ey f g d) (λ e. by_eq h 2 (flat k ex ey f g d e) (full k ex ey f g d e))

-- ---- k rows taken away

turned_parity : {k w dx ex : ℕ} → Turned k w dx ex → (q : ℕ) × (w * k + (dx + k) ≡ ex + 2 * q)
turned_parity {k} {w} {dx} {ex} t = go t (k / 2) (omega arith)
  where
    twice : (j : ℕ) → w * (j + j) ≡ w * j + w * j
    twice j = mul-add w j j

    go : Turned k w dx ex → (j : ℕ) → k ≡ j + j + k % 2 → (q : ℕ) × (w * k + (dx + k) ≡ ex + 2 * q)
    go (Turned.even e f) j h =
        let d : k ≡ j + j = omega arith in
        let p : w * k ≡ w * j + w * j = ap (λ (i : ℕ). w * i) d ∙ twice j in
        (w * j + j, omega arith)
    go (Turned.odd e f) j h =
        let d : k ≡ j + j + 1 = omega arith in
        let p : w * k ≡ w * j + w * j + w = ap (λ (i : ℕ). w * i) (d ∙ add-one (j + j)) ∙ mul-suc w (j + j) ∙ ap (λ (i : ℕ). i + w) (twice j) in
        (w * j + j + dx + 1, omega arith)

-- rows up to the one before the target's may go first, all at once
pub rows_right : (k w h dx dy : ℕ) → 2 ≤ w → 1 ≤ k → k + 1 ≡ dy → dy < h → First k w h dx dy
rows_right k w h dx dy v some e y = record { some = some; far = omega arith; counts = go }
  where
    parity : (p b ex ey q : ℕ) → 1 ≤ p → b + (dx + k) ≡ ex + 2 * q → p + b - 1 + (p + b + (dx + (ey + k))) % 2 ≡ b + (p - 1 + (p + (ex + ey)) % 2)
    parity p b ex ey q l e =
        let f : (p + b + (dx + (ey + k))) % 2 ≡ (p + (ex + ey)) % 2 = omega arith in
        omega arith

    go : (h' ex ey : ℕ) → h ≡ h' + k → Turned k w dx ex → dy ≡ ey + k → corner_count w h dx dy ≡ w * k + corner_count w h' ex ey
    go h' ex ey f t d =
        let p : w * h ≡ w * h' + w * k = ap (λ (i : ℕ). w * i) f ∙ mul-add w h' k in
        let o : 0 < w * h' = mul-pos (omega arith) (omega arith) in
        let q = turned_parity t in
        let r = count_full w h' ex ey (omega arith) (omega arith) (omega arith) in
        let s = count_full w h dx dy (omega arith) (omega arith) (omega arith) in
        s ∙ (λ i. p i - 1 + (p i + (dx + d i)) % 2) ∙ parity (w * h') (w * k) ex ey q.0 o q.1 ∙ ap (λ (i : ℕ). w * k + i) (sym r)

-- ---- the choice

module _ {w h dx dy : ℕ} (o : Open w h dx dy) where
  level : dy ≡ 0 → First 1 h w dy dx
  level a = row_right h w dy dx o.down o.across (let z = o.away in omega arith) (λ u. omega arith) (λ u v. omega arith)

  two : dy ≡ 1 → dx ≤ 1 → h ≡ 2 → First 1 w h dx dy
  two a b c = row_right w h dx dy o.across o.down (omega arith) (λ u. b) (λ u v. absurd (u c))

  far : dy ≡ 1 → dx ≡ w - 1 → h ≢ 2 → First 1 h w dy dx
  far a b c = let z = o.wide in row_right h w dy dx o.down o.across (omega arith) (λ u. omega arith) (λ u v. omega arith)

  other : dy ≡ 1 → dx ≢ w - 1 → h ≢ 2 → First 1 w h dx dy
  other a b c = let z = o.wide in row_right w h dx dy o.across o.down (omega arith) (λ u. absurd (c u)) (λ u v. omega arith)

  -- the lines that are chosen
  abbrev Fine : Lines → Type 0
  Fine l = GoFirst l.along l.count w h dx dy

  pub chosen_right : Fine (chosen w h dx dy)
  unfolding chosen
  chosen_right =
      let z = o.wide in
      both_branches Fine (ltb 1 dy) _ _
      (λ a. let l = ltb-true 1 dy a in rows_right _ _ _ _ _ o.wide (omega arith) (omega arith) o.down)
      (λ a. let l = ltb-false 1 dy a in both_branches Fine (eqb dy 0) _ _
      (λ b. level (eqb-true _ _ b))
      (λ b. let e : dy ≡ 1 = omega (arith, eqb-false dy 0 b) in both_branches Fine (eqb h 2) _ _
      (λ c. both_branches Fine (ltb 1 dx) _ _
      (λ d. let k = ltb-true 1 dx d in rows_right _ _ _ _ _ o.high (omega arith) (omega arith) o.across)
      (λ d. two e (ltb-false 1 dx d) (eqb-true _ _ c)))
      (λ c. both_branches Fine _ _ _
      (λ d. far e (eqb-true _ _ d) (eqb-false _ _ c))
      (λ d. other e (eqb-false _ _ d) (eqb-false _ _ c)))))
