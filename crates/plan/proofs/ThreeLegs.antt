-- The plans on three rows: split, middle and zigzag are chains from s to t, and what they lose. Each leg that is not a line is a block of three rows with
-- its corner in row 1 or 3, and loses a cell by parity alone, also where it is one column wide; the sums are over plain numbers.
use Prim.Native.Nat.{ℕ, ◌+◌, ◌-◌, ◌*◌, ◌%◌, ◌≤◌, ◌<◌, min, max}
use mathlib.Core.Path.{◌≡◌, refl, sym, ap, ◌∙◌, subst⁻¹}
use mathlib.Core.Logic.{dite}
use native.Mathlib.Omega.{arith}
use native.Mathlib.Decide.{ℕ_discrete, dec_lt}
use Rattle.grid.specs.declared.Panel.{Panel}
use Rattle.grid.specs.declared.Cell.{Cell}
use Rattle.grid.specs.Panel.{OnPanel, dist}
use Rattle.grid.proofs.Facts.{beside_x, beside_sym}
use Rattle.line.specs.Rectangle.{Inside}
use Rattle.corner.specs.Corner.{corner_count, track_count}
use Rattle.corner.proofs.Count.{count_thin}
use Rattle.plan.specs.declared.Leg.{Leg}
use Rattle.plan.specs.Leg.{cell, forth, back, leg_count}
use Rattle.plan.specs.Plan.{split, round, zigzag, middle}
use Rattle.plan.proofs.Cases.{if_equal}
use Rattle.plan.proofs.Size.{count_block, block_loss}
use Rattle.plan.proofs.Chain.{LegFrom, forth_leg, back_leg, Sep, sep_sym, left_of, right_of, over, under, Plans, two_legs, five_legs}
use Rattle.plan.proofs.Rows.{size_row}
use Rattle.plan.proofs.ThreeCount.{loss}

-- legs in two rows
rows_apart : {g h : Leg} (a b : ℕ) → (a ≡ b → ⊥) → g.a.y ≡ a → g.b.y ≡ a → h.a.y ≡ b → h.b.y ≡ b → Sep g h
rows_apart a b n c d e f =
    dite (dec_lt a b) (λ l. over a (omega arith)) (λ l. under b (omega arith))

-- ---- from row 1 or 3: to the other one, and to a row y

pub data Outer : ℕ → Type 0 where
  upper : Outer 1
  lower : Outer 3

pub outer : (r : ℕ) → 1 ≤ r → r ≤ 3 → (r ≡ 2 → ⊥) → Outer r
outer r p q n = dite (ℕ_discrete r 1) (λ e. subst⁻¹ Outer e upper) (λ e. subst⁻¹ Outer (three e) lower)
  where
    three : (r ≡ 1 → ⊥) → r ≡ 3
    three e = omega arith

outer_rows : {r : ℕ} → Outer r → (1 ≤ r) × (r ≤ 3) × (1 ≤ 4 - r) × (4 - r ≤ 3) × (2 ≡ r → ⊥)
outer_rows upper = omega arith
outer_rows lower = omega arith

outer_high : {r : ℕ} → Outer r → dist r (4 - r) + 1 ≡ 3
unfolding dist
outer_high upper = refl
outer_high lower = refl

outer_inside : {r : ℕ} (y : ℕ) → Outer r → 1 ≤ y → y ≤ 3 → (min r (4 - r) ≤ y) × (y ≤ max r (4 - r)) × (dist r y < 3)
unfolding dist
outer_inside y upper p q = omega arith
outer_inside y lower p q = omega arith

outer_parity : {r : ℕ} (a y : ℕ) → Outer r → 1 ≤ y → y ≤ 3 → (a + y) % 2 ≡ (a + dist r y + 1) % 2
unfolding dist
outer_parity a y upper p q = omega arith
outer_parity a y lower p q = omega arith

outer_past : {r : ℕ} (w y : ℕ) → Outer r → (w + r + y + 1) % 2 ≡ (w + 0 + y) % 2
outer_past w y upper = omega arith
outer_past w y lower = omega arith

-- ---- a block of three rows

-- how it lies in m columns: w of them, from x to far; its target in column tx, which is dx columns from x, and in row y
record Lies (m x far tx y w dx : ℕ) : Type 0 where
  near_left : 1 ≤ x
  near_right : x ≤ m
  far_left : 1 ≤ far
  far_right : far ≤ m
  first : min x far ≤ tx
  last : tx ≤ max x far
  top : 1 ≤ y
  bottom : y ≤ 3
  wide : dist x far + 1 ≡ w
  off : dist x tx ≡ dx

-- the block with its corner in row r
record Block (p : Panel) (x far r tx y w dx : ℕ) : Type 0 where
  corner : OnPanel p (cell x r)
  opposite : OnPanel p (cell far (4 - r))
  target : Inside (cell x r) (cell far (4 - r)) (cell tx y)
  size : track_count (cell x r) (cell far (4 - r)) (cell tx y) + (w + dx + y) % 2 ≡ 3 * w

module _ {p : Panel} {x far r tx y w dx : ℕ} where
  block_forth : Block p x far r tx y w dx → LegFrom p (forth (cell x r) (cell far (4 - r)) (cell tx y)) (cell x r) (cell tx y)
  block_forth b = forth_leg b.corner b.opposite b.target

  block_back : Block p x far r tx y w dx → LegFrom p (back (cell x r) (cell far (4 - r)) (cell tx y)) (cell tx y) (cell x r)
  block_back b = back_leg b.corner b.opposite b.target

three_count : (w dx dy : ℕ) → dx < w → dy < 3 → 0 < dx + dy → corner_count w 3 dx dy + (w + dx + dy + 1) % 2 ≡ 3 * w
three_count w dx dy p q r = dite (ℕ_discrete w 1) column block
  where
    column : w ≡ 1 → corner_count w 3 dx dy + (w + dx + dy + 1) % 2 ≡ 3 * w
    column e = let h = count_thin w 3 dx dy e (omega arith) q in omega arith

    block : (w ≡ 1 → ⊥) → corner_count w 3 dx dy + (w + dx + dy + 1) % 2 ≡ 3 * w
    block e = sum (count_block w 3 dx dy (omega arith) (omega arith) r) (block_loss w 3 (dx + dy) (omega arith))
      where
        sum : {k l : ℕ} → k ≡ l → l + (w * 3 + (dx + dy) + 1) % 2 ≡ w * 3 → k + (w + dx + dy + 1) % 2 ≡ 3 * w
        sum a b = omega arith

target_off : (dx r y : ℕ) → (dx ≡ 0 → y ≡ r → ⊥) → 0 < dx + dist r y
unfolding dist
target_off dx r y n =
    dite (ℕ_discrete dx 0) (λ e. dite (ℕ_discrete y r) (λ f. absurd (n e f)) (λ f. omega arith)) (λ e. omega arith)

target_near : {m x far tx y w dx : ℕ} → Lies m x far tx y w dx → dx < w
unfolding dist
target_near {x = x} {far = far} {tx = tx} l = near l.first l.last l.wide l.off
  where
    near : {v d : ℕ} → min x far ≤ tx → tx ≤ max x far → dist x far + 1 ≡ v → dist x tx ≡ d → d < v
    near a b c d = omega arith

-- columns x to far entered at (x, r) and left at (x, q)
record Around (p : Panel) (x far r q w : ℕ) (g : Leg) : Type 0 where
  leg : LegFrom p g (cell x r) (cell x q)
  near : g.a.x ≡ x
  end : g.b.x ≡ far
  size : leg_count g + (w + r + q + 1) % 2 ≡ 3 * w

-- ---- the sums

-- the same loss, written in another way
resized : (k : ℕ) {a b c : ℕ} → a ≡ b → k + b ≡ c → k + a ≡ c
resized k e h = ap (λ (n : ℕ). k + n) e ∙ h

split_right : (w dx x z c m : ℕ) → w + c ≡ m → dx + c + 1 ≡ x → (w + dx + z) % 2 ≡ (x + z + m + 1) % 2
split_right w dx x z c m e f = omega arith

two_sum : (g h k c w m a b : ℕ) → w + c ≡ m → g + a ≡ 3 * c → h + b ≡ 3 * w → k + (a + b) ≡ 3 * m → g + (h + 0) ≡ k
two_sum g h k c w m a b e f i j = omega arith

even_rest : (w c m : ℕ) → w + c ≡ m → m % 2 ≡ 0 → c % 2 ≡ 0 → 0 ≡ (w + 0 + 2) % 2
even_rest w c m e f g = omega arith

-- w and v are the columns right and left of a zigzag, r its third row
zigzag_right : (w z m y r q : ℕ) → w + z ≡ m → y + r + q ≡ 6 → (z + q + m + 1) % 2 ≡ (w + y + r + 1) % 2
zigzag_right w z m y r q e f = omega arith

zigzag_left : (v x y r q : ℕ) → v + 1 ≡ x → y + r + q ≡ 6 → (x + y) % 2 ≡ (v + r + q + 1) % 2
zigzag_left v x y r q e f = omega arith

-- its lines have l + 1 cells each
five_sum : (a b c d e k m x z w v l f g : ℕ) → w + z ≡ m → v + 1 ≡ x → x + l ≡ z → a ≡ l + 1 → c ≡ l + 1 → e ≡ l + 1
    → b + f ≡ 3 * w → d + g ≡ 3 * v → k + (g + f) ≡ 3 * m → a + (b + (c + (d + (e + 0)))) ≡ k
five_sum a b c d e k m x z w v l f g ew ev el ea ec ee eb ed ek = omega arith

-- the third row is another
third_other : (a r b : ℕ) → a + r + b ≡ 6 → 1 ≤ b → b ≤ 3 → (a ≡ b → ⊥) → a ≡ r → ⊥
third_other a r b e p q n f = n (omega arith)

-- ---- the plans

module _ (p : Panel) (high : p.height ≡ 3) where
  block : {x far r tx y w dx : ℕ} → Lies p.width x far tx y w dx → Outer r → (dx ≡ 0 → y ≡ r → ⊥) → Block p x far r tx y w dx
  unfolding track_count
  block {r = r} {y = y} {w = w} {dx = dx} l o n =
      let (a, b, c, d, e) = outer_rows o in
      let (i, j, k) = outer_inside y o l.top l.bottom in
      record {
        corner = record { left = l.near_left; right = l.near_right; top = a; bottom = omega arith };
        opposite = record { left = l.far_left; right = l.far_right; top = c; bottom = omega arith };
        target = record { left = l.first; right = l.last; top = i; bottom = j };
        size =
            (λ z. corner_count (l.wide z) (outer_high o z) (l.off z) (dist r y) + outer_parity (w + dx) y o l.top l.bottom z)
            ∙ three_count w dx (dist r y) (target_near l) k (target_off dx r y n);
      }

  -- entered or left in row 2
  around : (x far r q w : ℕ) → Lies p.width x far x r w 0 → 1 ≤ q → q ≤ 3 → (r ≡ q → ⊥) → Around p x far r q w (round x far r q)
  unfolding round
  around x far r q w l q1 q3 n = if_equal (Around p x far r q w) r 2 _ _ from_middle from_outer
    where
      from_middle : r ≡ 2 → Around p x far r q w (back (cell x q) (cell far (4 - q)) (cell x r))
      from_middle e =
          let o = outer q q1 q3 (λ z. n (e ∙ sym z)) in
          let b = block l o (λ z. n) in
          let past = ap (λ (k : ℕ). k % 2) swapped ∙ outer_past w r o in
          record { leg = block_back b; near = refl; end = refl; size = resized _ past b.size }
        where
          swapped : w + r + q + 1 ≡ w + q + r + 1
          swapped = omega arith

      from_outer : (r ≡ 2 → ⊥) → Around p x far r q w (forth (cell x r) (cell far (4 - r)) (cell x q))
      from_outer e =
          let o = outer r l.top l.bottom e in
          let b : Block p x far r x q w 0 = block (omega arith) o (λ z f. n (sym f)) in
          record { leg = block_forth b; near = refl; end = refl; size = resized _ (outer_past w q o) b.size }

  on : (x y : ℕ) → (1 ≤ x) × (x ≤ p.width) × (1 ≤ y) × (y ≤ p.height) → OnPanel p (cell x y)
  on x y (a, b, c, d) = record { left = a; right = b; top = c; bottom = d }

  line : {x far y : ℕ} → OnPanel p (cell x y) → OnPanel p (cell far y)
      → LegFrom p (forth (cell x y) (cell far y) (cell far y)) (cell x y) (cell far y)
  line {x} {far} {y} c d = forth_leg c d (omega arith)

  module _ {s t : Cell} (os : OnPanel p s) (ot : OnPanel p t) where
    pub split_three : {k : ℕ} (j : ℕ) → Outer j → s.x < t.x → (s.y ≡ j → ⊥) → (s.x + 1 ≡ t.x → t.y ≡ j → ⊥)
        → k + loss p.width s t ≡ 3 * p.width → Plans p s t k (split p.width 3 s t s.x j)
    unfolding split dist
    split_three {k} j o l ns nt e =
        two_legs (block_back left) (beside_x refl refl) (block_forth right) (left_of s.x (omega arith))
        (two_sum _ _ k s.x (p.width - s.x) p.width _ _ (omega arith) (resized _ one left.size) (resized _ two right.size) e)
      where
        left : Block p s.x 1 j s.x s.y s.x 0
        left = block (omega arith) o (λ z. ns)

        right : Block p (s.x + 1) p.width j t.x t.y (p.width - s.x) (t.x - (s.x + 1))
        right = block (omega arith) o (λ z. nt (omega arith))

        one : (s.x + s.y) % 2 ≡ (s.x + 0 + s.y) % 2
        one = omega arith

        two : (t.x + t.y + p.width + 1) % 2 ≡ (p.width - s.x + (t.x - (s.x + 1)) + t.y) % 2
        two = sym (split_right _ _ t.x t.y s.x p.width (omega arith) (omega arith))

    pub middle_three : Outer s.y → Outer t.y → s.x + 1 ≡ t.x → s.x % 2 ≡ 0 → p.width % 2 ≡ 0
        → Plans p s t (3 * p.width) (middle p.width s t)
    unfolding middle dist
    middle_three a b e ec em =
        two_legs (block_forth left) (beside_x e refl) (block_back right) (left_of s.x (omega arith))
        (two_sum _ _ (3 * p.width) s.x (p.width - s.x) p.width 0 0 (omega arith)
        (resized _ one left.size) (resized _ two right.size) (omega arith))
      where
        left : Block p s.x 1 s.y s.x 2 s.x 0
        left = block (omega arith) a (λ z. (outer_rows a).4)

        right : Block p t.x p.width t.y t.x 2 (p.width - s.x) 0
        right = block (omega arith) b (λ z. (outer_rows b).4)

        one : 0 ≡ (s.x + 0 + 2) % 2
        one = even_rest s.x 0 s.x (omega arith) ec (omega arith)

        two : 0 ≡ (p.width - s.x + 0 + 2) % 2
        two = even_rest (p.width - s.x) s.x p.width (omega arith) em ec

    pub zigzag_three : {k : ℕ} (r : ℕ) → s.y + r + t.y ≡ 6 → (s.y ≡ t.y → ⊥) → s.x ≤ t.x → 1 < s.x → t.x < p.width
        → k + loss p.width s t ≡ 3 * p.width → Plans p s t k (zigzag p.width s t r)
    unfolding zigzag dist
    zigzag_three {k} r er n l a b e =
        five_legs
        (line os (on t.x s.y (omega arith)))
        (beside_x refl refl)
        right.leg
        (beside_sym (beside_x refl refl))
        (line (on t.x r (omega arith)) (on s.x r (omega arith)))
        (beside_sym (beside_x (omega arith) refl))
        left.leg
        (beside_x (omega arith) refl)
        (line (on s.x t.y (omega arith)) ot)
        (before_right (omega arith), rows_apart s.y r sr refl refl refl refl, after_left (omega arith), rows_apart s.y t.y n refl refl refl refl)
        (sep_sym (before_right (omega arith)), sep_sym (before_right left_ends), sep_sym (before_right (omega arith)))
        (after_left (omega arith), rows_apart r t.y rt refl refl refl refl)
        (sep_sym (after_left (omega arith)))
        (five_sum _ _ _ _ _ k p.width s.x t.x (p.width - t.x) (s.x - 1) (t.x - s.x) _ _
        (omega arith)
        (omega arith)
        (omega arith)
        (size_row _ _ _ refl refl ∙ (omega arith))
        (size_row _ _ _ refl refl ∙ (omega arith))
        (size_row _ _ _ refl refl ∙ (omega arith))
        (resized _ (zigzag_right (p.width - t.x) t.x p.width s.y r t.y (omega arith) er) right.size)
        (resized _ (zigzag_left (s.x - 1) s.x s.y r t.y (omega arith) er) left.size)
        e)
      where
        sr : s.y ≡ r → ⊥
        sr = third_other s.y r t.y er ot.top (omega arith) n

        rt : r ≡ t.y → ⊥
        rt z = third_other t.y r s.y (omega arith) os.top (omega arith) (λ f. n (sym f)) (sym z)

        right : Around p (t.x + 1) p.width s.y r (p.width - t.x) (round (t.x + 1) p.width s.y r)
        right = around (t.x + 1) p.width s.y r (p.width - t.x) (omega arith) (omega arith) (omega arith) sr

        left : Around p (s.x - 1) 1 r t.y (s.x - 1) (round (s.x - 1) 1 r t.y)
        left = around (s.x - 1) 1 r t.y (s.x - 1) (omega arith) ot.top (omega arith) rt

        right_turn : Leg
        right_turn = round (t.x + 1) p.width s.y r

        left_turn : Leg
        left_turn = round (s.x - 1) 1 r t.y

        -- a leg left of the right turn, and one right of the left turn
        before_right : {g : Leg} → (g.a.x ≤ t.x) × (g.b.x ≤ t.x) → Sep g right_turn
        before_right (u, v) = left_of t.x (omega (arith, right.near, right.end))

        after_left : {g : Leg} → (s.x ≤ g.a.x) × (s.x ≤ g.b.x) → Sep g left_turn
        after_left (u, v) = right_of (s.x - 1) (omega (arith, left.near, left.end))

        left_ends : (left_turn.a.x ≤ t.x) × (left_turn.b.x ≤ t.x)
        left_ends = omega (arith, left.near, left.end)
