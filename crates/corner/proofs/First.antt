-- The first lines of a corner track and the rectangle that remains: both lie in the whole, have no cell in common, and touch where the ones end
-- and the other begins. Rows and columns are one law, over `Frame`.
use Prim.Native.Nat.{ℕ, ◌+◌, ◌-◌, ◌*◌, ◌%◌, ◌≤◌, ◌<◌}
use mathlib.Core.Path.{◌≡◌, refl, sym, ap, ◌∙◌, subst, subst₂}
use mathlib.Core.Logic.{◌≢◌, ◌⊎◌, inl, inr, ⊎_elim}
use mathlib.Core.Bool.{Bool, true, false, cond, ◌||◌}
use mathlib.Core.List.{reverse}
use native.Mathlib.Omega.{arith}
use native.Mathlib.Nat.{mul-le-mul}
use lib.Dec.{leb, eqb}
use borrow.Author.Tests.{eqb-true, eqb-false, eq-eqb, ne_eqb, le-leb, lt-leb}
use Rattle.grid.specs.declared.Cell.{Cell}
use Rattle.grid.specs.Panel.{dist}
use Rattle.grid.proofs.Tests.{both_branches, cond_yes, cond_no}
use Rattle.grid.proofs.Facts.{clash, or_cases, dist_sym, ne_cases, same_ne, same_eq}
use Rattle.line.specs.declared.Along.{Along}
use Rattle.line.specs.declared.Along.TheVariants.{Rows, Columns}
use Rattle.line.specs.Along.{seen, other}
use Rattle.line.specs.Rectangle.{Inside, cells_between, ahead, turning, sweep_end}
use Rattle.line.specs.Sweep.{sweep}
use Rattle.corner.specs.Drawn.{InBytes, Fits}
use Rattle.line.proofs.Between.{Between, between_sym, parts, dist_same, dist_ne, dist_less, dist_small, at_once, by_eq, Cut, cut}
use Rattle.line.proofs.Frame.{first_inside, last_inside, Frame, in_rows, in_columns, inside_x, inside_y, in_bytes, turning_even, turning_odd, sweep_row, sweep_column}
use Rattle.line.proofs.Sweep.{sweep_home, line_home}
use Rattle.corner.specs.declared.Sizes.{Sizes}
use Rattle.corner.specs.declared.Lines.{Lines}
use Rattle.corner.specs.declared.Peeled.{Peeled}
use Rattle.corner.specs.Corner.{corner_count, track_count}
use Rattle.corner.specs.Cells.{one_line, line_way, chosen, lines_by, first_lines, peeled}
use Rattle.corner.specs.Peel.{Measured, Open, FirstLines}
use Rattle.corner.proofs.Chosen.{Turned, First, GoFirst, Peel}
use Rattle.corner.proofs.Count.{chosen_right, count_turned, count_thin, count_flat, count_here}

-- ---- there and back

-- k lines there and back from p end at x, and o is the other side
data Ends (k p p' x o : ℕ) : Type 0 where
  even : k % 2 ≡ 0 → x ≡ p → o ≡ p' → Ends k p p' x o
  odd : k % 2 ≡ 1 → x ≡ p' → o ≡ p → Ends k p p' x o

ends : (k p p' : ℕ) → Ends k p p' (turning k p p') (turning k p' p)
ends k p p' =
    by_eq (k % 2) 0
    (λ e. Ends.even e (turning_even k p p' e) (turning_even k p' p e))
    (λ e. Ends.odd (omega arith) (turning_odd k p p' e) (turning_odd k p' p e))

ends_dist : {k p p' x o : ℕ} → Ends k p p' x o → dist x o ≡ dist p p'
ends_dist (Ends.even e f g) = λ i. dist (f i) (g i)
ends_dist {p = p} {p' = p'} (Ends.odd e f g) = (λ i. dist (f i) (g i)) ∙ dist_sym p' p

ends_from : {k p p' x o r : ℕ} → Ends k p p' x o → Between x o r → Between p p' r
ends_from {r = r} (Ends.even e f g) b = subst₂ (λ (i j : ℕ). Between i j r) f g b
ends_from {r = r} (Ends.odd e f g) b = between_sym (subst₂ (λ (i j : ℕ). Between i j r) f g b)

ends_to : {k p p' x o r : ℕ} → Ends k p p' x o → Between p p' r → Between x o r
ends_to {r = r} (Ends.even e f g) b = subst₂ (λ (i j : ℕ). Between i j r) (sym f) (sym g) b
ends_to {r = r} (Ends.odd e f g) b = subst₂ (λ (i j : ℕ). Between i j r) (sym f) (sym g) (between_sym b)

-- how far the target is from there
ends_turned : {k p p' x o r : ℕ} → Ends k p p' x o → Between p p' r → Turned k (dist p p' + 1) (dist p r) (dist x r)
ends_turned {r = r} (Ends.even e f g) b = Turned.even e (ap (λ (i : ℕ). dist i r) f)
ends_turned {p = p} {p' = p'} {r = r} (Ends.odd e f g) b = let d = ap (λ (i : ℕ). dist i r) f in Turned.odd e (omega (arith, parts b, d))

-- ---- the first lines and what remains

-- the count by lines
record Counted {way : Along} {E : ℕ → ℕ → Cell} (F : Frame way E) : Type 0 where
  count : (p q p' q' : ℕ) {t : Cell} → Inside (E p q) (E p' q') t
      → track_count (E p q) (E p' q') t ≡ corner_count (dist p p' + 1) (dist q q' + 1) (dist p (F.along t)) (dist q (F.over t))

counted_rows : Counted in_rows
unfolding in_rows track_count
counted_rows = record { count = λ p q p' q' i. refl }

counted_columns : Counted in_columns
unfolding in_columns track_count
counted_columns = record { count = λ p q p' q' i. count_turned _ _ _ _ (dist_less (inside_x i)) (dist_less (inside_y i)) }

module _ {way : Along} {E : ℕ → ℕ → Cell} {F : Frame way E} (C : Counted F) (p q p' q' : ℕ) (t : Cell) (i : Inside (E p q) (E p' q') t)
    {k : ℕ} (r : First k (dist p p' + 1) (dist q q' + 1) (dist p (F.along t)) (dist q (F.over t))) where
  -- where the lines end, the other side, the last line and the next one
  abbrev x : ℕ
  x = turning k p p'

  abbrev o : ℕ
  o = turning k p' p

  abbrev l : ℕ
  l = ahead q q' (k - 1)

  abbrev m : ℕ
  m = ahead q q' k

  e : Ends k p p' x o
  e = ends k p p'

  u : Cut q q' k l m
  u = cut q q' k r.some (omega (arith, parts (F.inside_over i), r.far))

  rest_target : Inside (E x m) (E o q') t
  rest_target = F.inside (ends_to e (F.inside_along i)) (u.rest _ (F.inside_over i) r.far).0

  rest_counts : track_count (E p q) (E p' q') t ≡ (dist p p' + 1) * k + track_count (E x m) (E o q') t
  rest_counts =
      let ex = dist x (F.along t) in
      let ey = dist m (F.over t) in
      C.count p q p' q' i
      ∙ r.counts (dist m q' + 1) ex ey (let z = u.left in omega arith) (ends_turned e (F.inside_along i)) (sym (u.rest _ (F.inside_over i) r.far).1)
      ∙ ap (λ (n : ℕ). (dist p p' + 1) * k + corner_count (n + 1) (dist m q' + 1) ex ey) (sym (ends_dist e))
      ∙ ap (λ (n : ℕ). (dist p p' + 1) * k + n) (sym (C.count x m o q' rest_target))

  taken_off : Peel (E p q) (E p' q') t (lines_by way E p q p' q' k)
  taken_off = record {
    size = ap (λ (j : ℕ). (dist p p' + 1) * j) (sym u.size) ∙ sym (F.size p q p' l);
    end = ap (λ (j : ℕ). E (turning j p p') l) (sym u.size) ∙ sym (F.end p q p' l);
    back = sweep_home F p q p' l (ap (λ (j : ℕ). turning j p p') (sym u.size)) (ap (λ (j : ℕ). turning j p' p) (sym u.size));
    lines = λ d j. F.inside (F.inside_along j) (u.before _ (F.inside_over j));
    same = λ d j. F.inside (ends_from e (F.inside_along j)) (between_sym (F.inside_over j));
    rest = λ d j. F.inside (ends_from e (F.inside_along j)) (u.behind _ (F.inside_over j));
    apart = λ d j z. u.apart _ (F.inside_over j) (F.inside_over z);
    beside = F.beside x l m u.beside;
    target = rest_target;
    counts = rest_counts;
    less = let y = u.left in let z = ends_dist e in let w = r.some in omega (arith, F.sides x m o q', F.sides p q p' q');
  }

-- the first k rows, or else columns, of the rectangle of a and b may go first
pub record MayGo (way : Along) (k : ℕ) (a b t : Cell) : Type 0 where
  pub lines : GoFirst way k (dist a.x b.x + 1) (dist a.y b.y + 1) (dist a.x t.x) (dist a.y t.y)

module _ (a b t : Cell) (i : Inside a b t) where
  lines_peeled : (way : Along) (k : ℕ) → MayGo way k a b t → Peel a b t (first_lines way a b k)
  unfolding in_rows in_columns
  lines_peeled Rows k r = taken_off counted_rows a.x a.y b.x b.y t i r.lines
  lines_peeled Columns k r = taken_off counted_columns a.y a.x b.y b.x t i r.lines

  -- what the code asks that computes them
  pub lines_asked : (way : Along) {k : ℕ} → MayGo way k a b t → FirstLines way a b k
  lines_asked Rows g = let r = g.lines in record { some = r.some; most = omega (arith, r.far, parts (inside_y i)) }
  lines_asked Columns g = let r = g.lines in record { some = r.some; most = omega (arith, r.far, parts (inside_x i)) }

-- the cells of a line of a rectangle in bytes, and of lines of it
seen_small : (way : Along) {a : Cell} → InBytes a → ((seen way a).x ≤ 255) × ((seen way a).y ≤ 255)
seen_small Rows s = (s.across, s.down)
seen_small Columns s = (s.down, s.across)

module _ (way : Along) {a b t : Cell} (f : Fits a b t) where
  pub line_small : dist (seen way a).x (seen way b).x ≤ 255
  line_small = dist_small _ _ (seen_small way f.corner).0 (seen_small way f.opposite).0

  pub lines_small : {k : ℕ} → FirstLines way a b k → (dist (seen way a).x (seen way b).x + 1) * k ≤ 65536
  lines_small {k} l =
      let c : k ≤ 256 = omega (arith, l.most, dist_small _ _ (seen_small way f.corner).1 (seen_small way f.opposite).1) in
      let d : dist (seen way a).x (seen way b).x + 1 ≤ 256 = omega (arith, line_small) in
      mul-le-mul d c

-- ---- by the sizes that the code measures

or_none : (p q : Bool) → (p || q) ≡ false → (p ≡ false) × (q ≡ false)
or_none true q e = clash (cc)
or_none false q e = (refl, e)

pub open_turned : {w h dx dy : ℕ} → Open w h dx dy → Open h w dy dx
open_turned o = record { wide = o.high; high = o.wide; across = o.down; down = o.across; away = let z = o.away in omega arith }

pub record Bounds (s : Sizes) : Type 0 where
  pub wide : s.w ≤ 256
  pub high : s.h ≤ 256
  pub across : s.dx ≤ 255
  pub down : s.dy ≤ 255
  pub some : 1 ≤ s.w * s.h
  pub all : s.w * s.h ≤ 65536

module _ {a b t : Cell} {s : Sizes} (m : Measured a b t s) where
  pub measured_count : corner_count s.w s.h s.dx s.dy ≡ track_count a b t
  unfolding track_count
  measured_count = λ i. corner_count (m.width i) (m.height i) (m.across i) (m.down i)

  measured : (way : Along) (k : ℕ) → GoFirst way k s.w s.h s.dx s.dy → MayGo way k a b t
  measured way k r = record { lines = subst (λ (T : Type 0). T) (λ i. GoFirst way k (m.width i) (m.height i) (m.across i) (m.down i)) r }

  -- rows of the turned rectangle are columns
  measured_turned : (way : Along) (k : ℕ) → GoFirst way k s.h s.w s.dy s.dx → MayGo (other way) k a b t
  measured_turned Rows k r = measured Columns k r
  measured_turned Columns k r = measured Rows k r

  pub bounds : Fits a b t → Bounds s
  bounds f =
      let u = f.corner in
      let v = f.opposite in
      let z = in_bytes u v f.inside in
      let w : s.w ≤ 256 = omega (arith, m.width, dist_small _ _ u.across v.across) in
      let h : s.h ≤ 256 = omega (arith, m.height, dist_small _ _ u.down v.down) in
      record {
        wide = w;
        high = h;
        across = omega (arith, m.across, dist_small _ _ u.across z.across);
        down = omega (arith, m.down, dist_small _ _ u.down z.down);
        some = mul-le-mul {n₁ = 1} {m₁ = 1} (omega (arith, m.width)) (omega (arith, m.height));
        all = mul-le-mul w h;
      }

  -- one column
  pub thin : Inside a b t → s.w ≡ 1 → s.dy + 1 ≡ corner_count s.w s.h s.dx s.dy
  thin i e =
      let x = dist_less (inside_x i) in
      let y = dist_less (inside_y i) in
      sym (count_thin _ _ _ _ e (omega (arith, m.width, m.across)) (omega (arith, m.height, m.down)))

  -- not one line
  pub open_measured : Inside a b t → one_line a b t ≡ false → Open s.w s.h s.dx s.dy
  open_measured i e =
      let u = or_none (eqb a.x b.x) _ e in
      let v = or_none (eqb a.y b.y) _ u.1 in
      record {
        wide = omega (arith, m.width, dist_ne a.x b.x (eqb-false _ _ u.0));
        high = omega (arith, m.height, dist_ne a.y b.y (eqb-false _ _ v.0));
        across = omega (arith, m.width, m.across, dist_less (inside_x i));
        down = omega (arith, m.height, m.down, dist_less (inside_y i));
        away = omega (arith, m.across, m.down, far (ne_cases a t (same_ne a t v.1)));
      }
    where
      far : (a.x ≢ t.x) ⊎ (a.y ≢ t.y) → 1 ≤ dist a.x t.x + dist a.y t.y
      far (inl n) = omega (arith, dist_ne a.x t.x n)
      far (inr n) = omega (arith, dist_ne a.y t.y n)

  -- the lines that the code chooses by them
  module _ {l : Lines} where
    pub peeled_wide : s.h ≤ s.w → l ≡ chosen s.w s.h s.dx s.dy → first_lines l.along a b l.count ≡ peeled a b t
    unfolding peeled
    peeled_wide h e =
        let c = e ∙ (λ i. chosen (m.width i) (m.height i) (m.across i) (m.down i)) in
        cond_yes _ _ (le-leb (dist a.y b.y + 1) (dist a.x b.x + 1) (omega (arith, m.width, m.height)))
        (λ i. first_lines (c i).along a b (c i).count)

    pub peeled_tall : s.w < s.h → l ≡ chosen s.h s.w s.dy s.dx → first_lines (other l.along) a b l.count ≡ peeled a b t
    unfolding peeled
    peeled_tall h e =
        let c = e ∙ (λ i. chosen (m.height i) (m.width i) (m.down i) (m.across i)) in
        cond_no _ _ (lt-leb (dist a.y b.y + 1) (dist a.x b.x + 1) (omega (arith, m.width, m.height)))
        (λ i. first_lines (other (c i).along) a b (c i).count)

  -- the lines chosen along the width, and along the height, may go first
  module _ (i : Inside a b t) (n : one_line a b t ≡ false) where
    pub wide_go : {l : Lines} → l ≡ chosen s.w s.h s.dx s.dy → MayGo l.along l.count a b t
    wide_go e =
        let c = chosen s.w s.h s.dx s.dy in
        subst (λ (l : Lines). MayGo l.along l.count a b t) (sym e) (measured c.along c.count (chosen_right (open_measured i n)))

    pub tall_go : {l : Lines} → l ≡ chosen s.h s.w s.dy s.dx → MayGo (other l.along) l.count a b t
    tall_go e =
        let c = chosen s.h s.w s.dy s.dx in
        subst (λ (l : Lines). MayGo (other l.along) l.count a b t) (sym e)
        (measured_turned c.along c.count (chosen_right (open_turned (open_measured i n))))

-- the lines that go first
pub peel_right : (a b t : Cell) → Inside a b t → one_line a b t ≡ false → Peel a b t (peeled a b t)
unfolding peeled
peel_right a b t i n =
    let s : Sizes = record { w = dist a.x b.x + 1; h = dist a.y b.y + 1; dx = dist a.x t.x; dy = dist a.y t.y } in
    let m : Measured a b t s = record { width = refl; height = refl; across = refl; down = refl } in
    both_branches (Peel a b t) (leb s.h s.w) _ _
    (λ e. lines_peeled a b t i _ _ (wide_go m i n refl))
    (λ e. lines_peeled a b t i _ _ (tall_go m i n refl))

-- what remains is a rectangle in bytes with the target in it
pub peel_fits : {a b t : Cell} {r : Peeled} → Fits a b t → one_line a b t ≡ false → r ≡ peeled a b t → Fits r.corner r.opposite t
peel_fits {a} {b} {t} f n e =
    let p = subst (Peel a b t) (sym e) (peel_right a b t f.inside n) in
    record {
      corner = in_bytes f.corner f.opposite (p.rest _ (first_inside _ _));
      opposite = in_bytes f.corner f.opposite (p.rest _ (last_inside _ _));
      inside = p.target;
    }

-- ---- one line

-- the line from the corner to the target, a row or a column by the code's test, ends in the target, and from there has the same cells, the last one first
pub record Only (a b t : Cell) (way : Along) : Type 0 where
  pub counts : track_count a b t ≡ cells_between a t
  pub end : sweep_end way a t ≡ t
  pub back : sweep way t a ≡ reverse (sweep way a t)

module _ (a b t : Cell) (i : Inside a b t) where
  -- the target lies in the corner's column or row
  level : {p q r : ℕ} → p ≡ q → Between p q r → p ≡ r
  level {p} {r = r} e k = sym (at_once (subst (λ (j : ℕ). Between p j r) (sym e) k))

  -- one column, one row, or the target is the corner
  one_of : {C : Type 0} → one_line a b t ≡ true → (a.x ≡ b.x → C) → (a.y ≡ b.y → C) → (a ≡ t → C) → C
  one_of e f g h =
      ⊎_elim (λ u. f (eqb-true _ _ u)) (λ u. ⊎_elim (λ v. g (eqb-true _ _ v)) (λ v. h (same_eq a t v)) (or_cases _ _ u)) (or_cases _ _ e)

  in_line : one_line a b t ≡ true → (a.x ≡ t.x) ⊎ (a.y ≡ t.y)
  in_line e = one_of e (λ u. inl (level u (inside_x i))) (λ u. inr (level u (inside_y i))) (λ u. inl (ap (λ (c : Cell). c.x) u))

  abbrev Ended : Along → Type 0
  Ended way = (sweep_end way a t ≡ t) × (sweep way t a ≡ reverse (sweep way a t))

  ended : (a.x ≡ t.x) ⊎ (a.y ≡ t.y) → Ended (line_way a t)
  ended l =
      by_eq a.y t.y
      (λ u. by_test (eq-eqb _ _ u) (sweep_row a t u, line_home in_rows a.x a.y t.x t.y u))
      (λ u. let c = upright u l in by_test (ne_eqb _ _ u) (sweep_column a t c, line_home in_columns a.y a.x t.y t.x c))
    where
      by_test : {r : Bool} → eqb a.y t.y ≡ r → Ended (cond r Rows Columns) → Ended (line_way a t)
      by_test g = subst (λ (r : Bool). Ended (cond r Rows Columns)) (sym g)

      upright : a.y ≢ t.y → (a.x ≡ t.x) ⊎ (a.y ≡ t.y) → a.x ≡ t.x
      upright n (inl c) = c
      upright n (inr c) = absurd (n c)

  counted : one_line a b t ≡ true → track_count a b t ≡ cells_between a t
  unfolding track_count cells_between
  counted e = one_of e column row here
    where
      column : a.x ≡ b.x → track_count a b t ≡ cells_between a t
      column f =
          let u = dist_same f in
          let v = dist_same (level f (inside_x i)) in
          count_thin _ _ _ _ (omega arith) v (dist_less (inside_y i)) ∙ sym (ap (λ (k : ℕ). (k + 1) * (dist a.y t.y + 1)) v ∙ omega arith)

      row : a.y ≡ b.y → track_count a b t ≡ cells_between a t
      row f =
          let u = dist_same f in
          let v = dist_same (level f (inside_y i)) in
          count_flat _ _ _ _ (omega arith) ∙ sym (ap (λ (k : ℕ). (dist a.x t.x + 1) * (k + 1)) v ∙ omega arith)

      here : a ≡ t → track_count a b t ≡ cells_between a t
      here f =
          let u = dist_same (ap (λ (c : Cell). c.x) f) in
          let v = dist_same (ap (λ (c : Cell). c.y) f) in
          count_here _ _ _ _ (omega arith) ∙ sym (λ j. (u j + 1) * (v j + 1))

  pub only : one_line a b t ≡ true → Only a b t (line_way a t)
  only e = let d = ended (in_line e) in record { counts = counted e; end = d.0; back = d.1 }

-- a corner track has at most 256 by 256 cells
pub track_most : {a b t : Cell} → InBytes a → InBytes b → Inside a b t → track_count a b t ≤ 65536
unfolding track_count corner_count
track_most {a} {b} {t} u v i =
    let s : Sizes = record { w = dist a.x b.x + 1; h = dist a.y b.y + 1; dx = dist a.x t.x; dy = dist a.y t.y } in
    let m : Measured a b t s = record { width = refl; height = refl; across = refl; down = refl } in
    let k = bounds m (record { corner = u; opposite = v; inside = i }) in
    both_branches (λ n. n ≤ 65536) (eqb (s.dx + s.dy) 0) _ _ (λ _. omega arith)
    (λ _. both_branches (λ n. n ≤ 65536) (eqb s.h 1) _ _ (λ _. omega arith)
    (λ _. both_branches (λ n. n ≤ 65536) (eqb s.w 1) _ _ (λ _. omega arith) (λ _. omega arith)))
