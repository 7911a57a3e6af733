-- A track has at most the cells of the count, and as many as the count in parity. Class by class, for terminals named by x: one row, two rows
-- and F3 have their own files; a track has at most mn cells, with two black ends on an odd panel two fewer (one black cell more than white ones,
-- where the panel has one fewer), and one fewer where the parity of its length is not that of mn.
-- A track reversed or turned is a track, which gives the other names and the tall panels.
use Prim.Native.Nat.{ℕ, ◌+◌, ◌-◌, ◌*◌, ◌/◌, ◌%◌, ◌≤◌}
use mathlib.Core.Path.{◌≡◌, refl, sym, ap, ◌∙◌}
use mathlib.Core.Logic.{◌≢◌, inl, inr, ⊎_elim}
use mathlib.Core.Bool.{Bool, true, false, cond, not, ◌&&◌, ◌||◌}
use mathlib.Core.List.{List, reverse, map}
use native.Mathlib.Omega.{arith}
use lib.ListN.{length, length-reverse, length-map}
use lib.Dec.{eqb}
use borrow.Author.Tests.{eqb-true, eqb-false, not-true}
use Rattle.grid.specs.declared.Panel.{Panel}
use Rattle.grid.specs.declared.Cell.{Cell}
use Rattle.grid.specs.Panel.{OnPanel, black, turned_cell}
use Rattle.grid.specs.Track.{All, Track}
use Rattle.grid.proofs.Facts.{and_left, and_parts, or_cases, cell_eq}
use Rattle.grid.proofs.Tests.{both_branches}
use Rattle.grid.proofs.Track.{all_map, backwards, first_in, last_in, some_cell}
use Rattle.grid.proofs.Moves.{turning, moved}
use Rattle.count.specs.declared.ClassCount.{ClassCount}
use Rattle.count.specs.Count.{area, odd, f1, f2, f2_count, c2, c0, decided, class_count, count}
use Rattle.count.specs.Longest.{NoLonger, if_black, weight}
use Rattle.count.proofs.Lines.{over_lines}
use Rattle.count.proofs.F3.{ThreeApart, even_area, c2_cases}
use Rattle.count.proofs.Pigeon.{InColumns, at_most_area}
use Rattle.count.proofs.Colour.{bit, mod_bit, is_odd, black_bit, walk_black, at_most_black}
use Rattle.count.proofs.Strip.{strip}
use Rattle.count.proofs.Rows.{one_row, two_rows_lem}

-- ---- parities

-- C0 is the lines on which mn and the black ends make an odd number, but for two black ends on an odd panel
c0_parity : (o a b : Bool) → (o && (a && b)) ≡ false → (bit o + (bit a + bit b)) % 2 ≡ bit (cond o (not a && not b) (cond a (not b) b))
c0_parity true true true e = absurd (omega (arith, ap bit e))
c0_parity true true false e = refl
c0_parity true false true e = refl
c0_parity true false false e = refl
c0_parity false true true e = refl
c0_parity false true false e = refl
c0_parity false false true e = refl
c0_parity false false false e = refl

one_row_black : (c : Cell) → c.y ≡ 1 → if_black c ≡ (c.x + 1) % 2
unfolding if_black
one_row_black c h = omega arith

two_rows_black : (s t : Cell) → s.y + t.y ≡ 3 → (if_black s + if_black t + (s.x + t.x)) % 2 ≡ 1
unfolding if_black
two_rows_black s t h = go s.x s.y t.x t.y h
  where
    go : (a b c d : ℕ) → b + d ≡ 3 → ((a + b) % 2 + (c + d) % 2 + (a + c)) % 2 ≡ 1
    go a b c d h = omega arith

neither_left : (a b : Bool) → (a || b) ≡ false → a ≡ false
neither_left true b e = e
neither_left false b e = refl

-- ---- class by class

-- at most k cells, and as many as k in parity
abbrev Fits : List Cell → ℕ → Type 0
Fits l k = (length l ≤ k) × ((length l + k) % 2 ≡ 0)

module _ (p : Panel) (s t : Cell) (ne : s ≢ t) {l : List Cell} (r : Track p s t l) where
  on_s : OnPanel p s
  on_s = first_in r.walk r.within

  on_t : OnPanel p t
  on_t = last_in r.walk r.within

  rows : (n : ℕ) → p.height ≡ n → All (InColumns 0 p.width n) l
  rows n e = all_map (λ c o. record { left = o.left; right = omega arith; top = o.top; bottom = omega arith }) r.within

  ends : 2 * weight if_black l + 1 ≡ length l + if_black s + if_black t
  ends = walk_black r.walk

  f1_bound : s.x ≤ t.x → f1 p s t ≡ true → Fits l (t.x - s.x + 1)
  unfolding f1
  f1_bound h e =
      let n : p.height ≡ 1 = eqb-true _ _ (and_left _ _ e) in
      let i : s.y ≡ 1 = omega (arith, on_s) in
      let j : t.y ≡ 1 = omega (arith, on_t) in
      let x : s.x ≢ t.x = λ q. ne (cell_eq q (i ∙ sym j)) in
      (one_row p.width (omega arith) r.walk r.once (rows 1 n), parity s.x t.x (length l) _ _ _ (one_row_black s i) (one_row_black t j) h ends)
    where
      parity : (a b k w d e : ℕ) → d ≡ (a + 1) % 2 → e ≡ (b + 1) % 2 → a ≤ b → 2 * w + 1 ≡ k + d + e → (k + (b - a + 1)) % 2 ≡ 0
      parity a b k w d e p q h i = omega arith

  f2_bound : f2 p s t ≡ true → Fits l (f2_count p.width (s.x + t.x))
  unfolding f2
  f2_bound e =
      let (n, c) = and_parts _ _ e in
      let h : p.height ≡ 2 = eqb-true _ _ n in
      elim (or_cases (eqb s.x t.x) _ c) [
        | inl x ↦ column h (eqb-true _ _ x)
        | inr x ↦ let (y, d) = and_parts _ _ x in next h (eqb-true _ _ y) (eqb-false _ _ (not-true _ d))
      ]
    where
      parity : (a m k w d e : ℕ) → (d + e + a) % 2 ≡ 1 → a ≤ 2 * m → 2 * w + 1 ≡ k + d + e → (k + f2_count m a) % 2 ≡ 0
      parity a m k w d e p q h = omega arith

      bound : p.height ≡ 2 → s.y ≢ t.y → s.x ≤ t.x → t.x ≤ s.x + 1 → Fits l (f2_count p.width (s.x + t.x))
      bound n h i j = (
        two_rows_lem p.width h i j r.walk r.once (rows 2 n),
        parity (s.x + t.x) p.width (length l) _ _ _ (two_rows_black s t (omega (arith, on_s, on_t))) (omega (arith, on_s, on_t)) ends,
      )

      column : p.height ≡ 2 → s.x ≡ t.x → Fits l (f2_count p.width (s.x + t.x))
      column n q = bound n (λ y. ne (cell_eq q y)) (omega arith) (omega arith)

      next : p.height ≡ 2 → s.x + 1 ≡ t.x → s.y ≢ t.y → Fits l (f2_count p.width (s.x + t.x))
      next n q d = bound n d (omega arith) (omega arith)

  f3_bound : ThreeApart p s t → Fits l (area p - 2)
  unfolding if_black
  f3_bound f =
      let a : area p ≡ p.width * 3 = ap (λ (k : ℕ). p.width * k) f.rows in
      let k =
      strip (s.x + (s.x + 1) % 2) p.width (omega arith) (omega arith) (omega arith) f.odd_column
      f.dark f.light r.walk r.once (rows 3 f.rows) in
      two_less (area p) (length l) (weight if_black l) (even_area f) (omega arith) (omega (arith, ends))
    where
      two_less : (a k w : ℕ) → a % 2 ≡ 0 → k + 2 ≤ a → 2 * w ≡ k → (k ≤ a - 2) × ((k + (a - 2)) % 2 ≡ 0)
      two_less a k w e h i = omega arith

  odd_bound : (odd (area p) ≡ true) × (black s ≡ true) × (black t ≡ true) → Fits l (area p - 2)
  odd_bound (o, bs, bt) =
      two_less (area p) (length l) (weight if_black l) _ _ (is_odd _ o) (black_bit s ∙ ap bit bs) (black_bit t ∙ ap bit bt) ends
      (at_most_black p r.once r.within)
    where
      two_less : (a k w d e : ℕ) → a % 2 ≡ 1 → d ≡ 1 → e ≡ 1 → 2 * w + 1 ≡ k + d + e → w ≤ a / 2
          → (k ≤ a - 2) × ((k + (a - 2)) % 2 ≡ 0)
      two_less a k w d e o p q h i = omega arith

  c2_bound : c2 p s t ≡ true → Fits l (area p - 2)
  c2_bound e = ⊎_elim odd_bound f3_bound (c2_cases p s t e)

  -- the other classes: C0 decides the parity of the length
  rest_parity : c2 p s t ≡ false → (area p % 2 + (if_black s + if_black t)) % 2 ≡ bit (c0 p s t)
  unfolding c2 c0
  rest_parity e = (λ i. (mod_bit (area p) i + (black_bit s i + black_bit t i)) % 2) ∙ (c0_parity (odd (area p)) (black s) (black t) (neither_left _ _ e))

  c0_bound : c2 p s t ≡ false → c0 p s t ≡ true → Fits l (area p)
  c0_bound e f = (at_most_area p r.once r.within, parity (area p) (length l) _ _ _ (rest_parity e ∙ ap bit f) ends)
    where
      parity : (a k w d e : ℕ) → (a % 2 + (d + e)) % 2 ≡ 1 → 2 * w + 1 ≡ k + d + e → (k + a) % 2 ≡ 0
      parity a k w d e h i = omega arith

  c1_bound : c2 p s t ≡ false → c0 p s t ≡ false → Fits l (area p - 1)
  c1_bound e f = one_less (area p) (length l) _ _ _ (rest_parity e ∙ ap bit f) ends (at_most_area p r.once r.within) (some_cell r.walk)
    where
      one_less : (a k w d e : ℕ) → (a % 2 + (d + e)) % 2 ≡ 0 → 2 * w + 1 ≡ k + d + e → k ≤ a → 1 ≤ k
          → (k ≤ a - 1) × ((k + (a - 1)) % 2 ≡ 0)
      one_less a k w d e h i j g = omega arith

-- ---- the theorem

abbrev AllFit : Panel → Cell → Cell → ClassCount → Type 0
AllFit p s t c = (l : List Cell) → Track p s t l → Fits l c.count.0

-- terminals named so that s's x is not the larger
decided_bound : (p : Panel) (s t : Cell) → s ≢ t → s.x ≤ t.x → AllFit p s t (decided p s t)
unfolding decided
decided_bound p s t ne h =
    both_branches (AllFit p s t) (f1 p s t) _ _ (λ e l r. omega (arith, f1_bound p s t ne r h e))
    (λ _. both_branches (AllFit p s t) (f2 p s t) _ _ (λ e l r. omega (arith, f2_bound p s t ne r e))
    (λ _. both_branches (AllFit p s t) (c2 p s t) _ _ (λ e l r. omega (arith, c2_bound p s t ne r e))
    (λ e. both_branches (AllFit p s t) (c0 p s t) _ _ (λ f l r. omega (arith, c0_bound p s t ne r e f))
    (λ f l r. omega (arith, c1_bound p s t ne r e f)))))

count_bound : (p : Panel) (s t : Cell) → s ≢ t → AllFit p s t (class_count p s t)
count_bound =
    over_lines (λ p s t f. s ≢ t → AllFit p s t f)
    (λ p s t _ h ne. decided_bound p s t ne h)
    (λ p s t f b ne l r. omega (arith, b (λ q. ne (sym q)) (reverse l) (backwards r), length-reverse l))
    (λ p s t f b ne l r. omega (arith, b (λ q. ne (ap turned_cell q)) (map turned_cell l) (moved (turning p) r), length-map l turned_cell))

-- every track between two different cells has at most the count's cells
pub no_longer : (p : Panel) (s t : Cell) → s ≢ t → NoLonger p s t (count p s t)
no_longer p s t ne l r = omega (arith, count_bound p s t ne l r)

-- and as many as the count in parity: what it leaves out of the count is even
pub same_parity : (p : Panel) (s t : Cell) → s ≢ t → (l : List Cell) → Track p s t l → (length l + count p s t) % 2 ≡ 0
same_parity p s t ne l r = (count_bound p s t ne l r).1
