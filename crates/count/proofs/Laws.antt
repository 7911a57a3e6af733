-- Laws of class and count: classes 1 to 5, the terminals in either order, the panel turned, the colours alone, and 2 ≤ count ≤ mn.
-- Each test of the definition has its law first; the laws of `decided`, `named` and `class_count` put them together.
use Prim.Native.Nat.{ℕ, suc, zero, ◌+◌, ◌-◌, ◌*◌, ◌%◌, ◌≤◌, ◌<◌}
use mathlib.Core.Path.{◌≡◌, refl, sym, ap, ◌∙◌, subst}
use mathlib.Core.Logic.{◌≢◌, ◌⊎◌, inl, inr, ⊎_elim}
use mathlib.Core.Bool.{Bool, true, false, cond, not, ◌&&◌, ◌||◌, and-true, and_comm, or-true, or-false, true≢false}
use native.Mathlib.Omega.{arith}
use native.Mathlib.Nat.{suc-mul, mul-one, mul_comm, mul-le-mul, mul-le-mul_left}
use lib.Dec.{leb, ltb, eqb}
use borrow.Author.Tests.{ltb-true, ltb-false, lt-ltb, le-ltb, leb-true, leb-false, eqb-true, eqb-false, eq-eqb, ne_eqb, not-true, not-false}
use Rattle.grid.specs.declared.Panel.{Panel}
use Rattle.grid.specs.declared.Cell.{Cell}
use Rattle.grid.specs.Panel.{OnPanel, black, turned, turned_cell}
use Rattle.grid.proofs.Facts.{and_left, and_right, or_cases, cell_eq}
use Rattle.grid.proofs.Moves.{turn_on, black_turned}
use Rattle.grid.proofs.Tests.{and_no, both_branches, cond_yes, cond_no}
use Rattle.count.specs.declared.ClassCount.{ClassCount}
use Rattle.count.specs.Count.{area, odd, end_cell, f1, f2, f2_count, f3, c2, c0, found, decided, named, class_count, class, count}
use Rattle.count.specs.ByColour.{coloured, by_colour}
use Rattle.count.proofs.Lines.{over_lines}
use Rattle.count.proofs.F3.{no_f3, c2_cases}

-- ---- Boolean laws

-- C0 of an area's parity and two colours
colours_swap : (o a b : Bool) → cond o (not a && not b) (cond a (not b) b) ≡ cond o (not b && not a) (cond b (not a) a)
colours_swap o true true = refl
colours_swap true true false = refl
colours_swap false true false = refl
colours_swap true false true = refl
colours_swap false false true = refl
colours_swap o false false = refl

-- ---- the classes are 1 to 5

abbrev Small : ClassCount → Type 0
Small r = r.class ≤ 5

decided_small : (p : Panel) (s t : Cell) → Small (decided p s t)
unfolding decided
decided_small p s t =
    both_branches Small (f1 p s t) _ _ (λ _. omega arith)
    (λ _. both_branches Small (f2 p s t) _ _ (λ _. omega arith)
    (λ _. both_branches Small (c2 p s t) _ _ (λ _. omega arith)
    (λ _. both_branches Small (c0 p s t) _ _ (λ _. omega arith) (λ _. omega arith))))

pub class_small : (p : Panel) (s t : Cell) → class p s t ≤ 5
class_small = over_lines (λ p s t. Small) (λ p s t _ _. decided_small p s t) (λ p s t f h. h) (λ p s t f h. h)

-- ---- areas

pub area_turned : (p : Panel) → area (turned p) ≡ area p
area_turned p = mul_comm p.height p.width

pub sum_le_product : (w h : ℕ) → 1 ≤ w → 1 ≤ h → w + h ≤ w * h + 1
sum_le_product zero h p q = omega arith
sum_le_product (suc k) h p q = omega (arith, suc-mul k h, mul-le-mul_left k q, mul-one k)

-- a panel with a cell (x, y) has at least x + y - 1 cells
pub area_of_cell : (p : Panel) (c : Cell) → OnPanel p c → c.x + c.y ≤ area p + 1
area_of_cell p c o = omega (arith, sum_le_product p.width p.height (omega arith) (omega arith))

f2_cases : (p : Panel) (s t : Cell) → f2 p s t ≡ true → (p.height ≡ 2) × ((s.x ≡ t.x) ⊎ ((s.x + 1 ≡ t.x) × (s.y ≢ t.y)))
unfolding f2
f2_cases p s t e = (
  eqb-true _ _ (and_left high (column || (next && other)) e),
  ⊎_elim (λ h. inl (eqb-true _ _ h))
      (λ h. inr (eqb-true _ _ (and_left next other h), eqb-false _ _ (not-true _ (and_right next other h))))
      (or_cases column (next && other) (and_right high (column || (next && other)) e)),
)
  where
    high : Bool
    high = eqb p.height 2

    column : Bool
    column = eqb s.x t.x

    next : Bool
    next = eqb (s.x + 1) t.x

    other : Bool
    other = not (eqb s.y t.y)

black_sum : (c : Cell) → black c ≡ true → (c.x + c.y) % 2 ≡ 1
black_sum c e = eqb-true _ _ e

-- numbers of different parity
parity_differ : (a b : ℕ) → (a + b) % 2 ≡ 1 → eqb (a % 2) 1 ≡ not (eqb (b % 2) 1)
parity_differ a b h = go (eqb (b % 2) 1) refl
  where
    go : (r : Bool) → eqb (b % 2) 1 ≡ r → eqb (a % 2) 1 ≡ not r
    go true e = let k = eqb-true (b % 2) 1 e in ne_eqb (a % 2) 1 (omega arith)
    go false e = let k = eqb-false (b % 2) 1 e in eq-eqb (a % 2) 1 (omega arith)

-- class 5 leaves two cells out, and there are two
pub c2_area : (p : Panel) (s t : Cell) → OnPanel p s → c2 p s t ≡ true → 2 ≤ area p
c2_area p s t o e =
    ⊎_elim (λ h. omega (arith, area_of_cell p s o, black_sum s h.1))
    (λ h. omega (arith, sum_le_product p.width p.height (omega arith) (omega arith), h))
    (c2_cases p s t e)

-- ---- the terminals in either order

f1_swap : (p : Panel) (s t : Cell) → f1 p s t ≡ f1 p t s
unfolding f1
f1_swap p s t = λ i. eqb p.height 1 && not (and_comm (end_cell p s) (end_cell p t) i)

-- in one column F2* depends on the height alone
f2_column : (p : Panel) (s t : Cell) → s.x ≡ t.x → f2 p s t ≡ eqb p.height 2
unfolding f2
f2_column p s t e = always (eqb p.height 2) _ (eq-eqb _ _ e)
  where
    always : (h : Bool) {a : Bool} (b : Bool) → a ≡ true → (h && (a || b)) ≡ h
    always h b q = rw q (and-true h)

-- F3 wants the other terminal to the right
f3_right : (p : Panel) (s t : Cell) → t.x ≤ s.x → f3 p s t ≡ false
f3_right p s t h = no_f3 p s t (λ f. omega (arith, f.odd_column))

c0_swap : (p : Panel) (s t : Cell) → c0 p s t ≡ c0 p t s
unfolding c0
c0_swap p s t = colours_swap (odd (area p)) (black s) (black t)

c2_column : (p : Panel) (s t : Cell) → s.x ≡ t.x → c2 p s t ≡ c2 p t s
unfolding c2
c2_column p s t e = λ i. (odd (area p) && and_comm (black s) (black t) i) || (f3_right p s t (omega arith) ∙ sym (f3_right p t s (omega arith))) i

decided_column : (p : Panel) (s t : Cell) → s.x ≡ t.x → decided p s t ≡ decided p t s
unfolding decided
decided_column p s t e =
    let a : t.x - s.x ≡ s.x - t.x = omega arith in
    let b : s.x + t.x ≡ t.x + s.x = omega arith in
    λ i.
    cond (f1_swap p s t i) (found 1 (a i + 1))
    (cond ((f2_column p s t e ∙ sym (f2_column p t s (sym e))) i) (found 2 (f2_count p.width (b i)))
    (cond (c2_column p s t e i) (found 5 (area p - 2))
    (cond (c0_swap p s t i) (found 3 (area p))
    (found 4 (area p - 1)))))

named_swap : (p : Panel) (s t : Cell) → named p s t ≡ named p t s
unfolding named
named_swap p s t = swap (ltb t.x s.x) refl (ltb s.x t.x) refl
  where
    swap : (a : Bool) → ltb t.x s.x ≡ a → (b : Bool) → ltb s.x t.x ≡ b
        → cond a (decided p t s) (decided p s t) ≡ cond b (decided p s t) (decided p t s)
    swap true d true e = let h = ltb-true t.x s.x d in let k = ltb-true s.x t.x e in absurd (omega arith)
    swap true d false e = refl
    swap false d true e = refl
    swap false d false e = let h = ltb-false t.x s.x d in let k = ltb-false s.x t.x e in decided_column p s t (omega arith)

-- the same class and count for the terminals in either order
pub either_order : (p : Panel) (s t : Cell) → class_count p s t ≡ class_count p t s
unfolding class_count
either_order p s t = λ i. cond (ltb p.width p.height) (named_swap (turned p) (turned_cell s) (turned_cell t) i) (named_swap p s t i)

-- ---- by the colours alone

coloured_swap : (a : ℕ) (o b d : Bool) → coloured a o b d ≡ coloured a o d b
coloured_swap a o b d = λ i. cond (o && and_comm b d i) (found 5 (a - 2)) (cond (colours_swap o b d i) (found 3 a) (found 4 (a - 1)))

by_colour_swap : (p : Panel) (s t : Cell) → by_colour p s t ≡ by_colour p t s
by_colour_swap p s t = coloured_swap (area p) (odd (area p)) (black s) (black t)

by_colour_turned : (p : Panel) (s t : Cell) → by_colour (turned p) (turned_cell s) (turned_cell t) ≡ by_colour p s t
by_colour_turned p s t = λ i. coloured (area_turned p i) (odd (area_turned p i)) (black_turned s i) (black_turned t i)

pub f3_c2 : (p : Panel) (s t : Cell) → f3 p s t ≡ true → c2 p s t ≡ true
unfolding c2
f3_c2 p s t e = rw (e, or-true)

-- the lines behind F1 and F2*
rest_by_colour : (p : Panel) (s t : Cell) → f3 p s t ≡ false
    → cond (c2 p s t) (found 5 (area p - 2)) (cond (c0 p s t) (found 3 (area p)) (found 4 (area p - 1))) ≡ by_colour p s t
unfolding c2 c0
rest_by_colour p s t e = rw (e, or-false)

pub decided_by_colour : (p : Panel) (s t : Cell) → f1 p s t ≡ false → f2 p s t ≡ false → f3 p s t ≡ false → decided p s t ≡ by_colour p s t
unfolding decided
decided_by_colour p s t e f g = rw (e, f) (rest_by_colour p s t g)

-- F1, F2* and F3 each have their number of rows
pub not_f1 : (p : Panel) (s t : Cell) → p.height ≢ 1 → f1 p s t ≡ false
unfolding f1
not_f1 p s t n = sym (and_no _ (ne_eqb p.height 1 n))

pub not_f2 : (p : Panel) (s t : Cell) → p.height ≢ 2 → f2 p s t ≡ false
unfolding f2
not_f2 p s t n = sym (and_no _ (ne_eqb p.height 2 n))

pub not_f3 : (p : Panel) (s t : Cell) → p.height ≢ 3 → f3 p s t ≡ false
not_f3 p s t n = no_f3 p s t (λ f. n f.rows)

-- more than 3 rows and columns: none of them fits
high : (p : Panel) (s t : Cell) → 3 < p.height → decided p s t ≡ by_colour p s t
high p s t h = decided_by_colour p s t (not_f1 p s t (omega arith)) (not_f2 p s t (omega arith)) (not_f3 p s t (omega arith))

pub class_by_colour : (p : Panel) (s t : Cell) → 3 < p.width → 3 < p.height → class_count p s t ≡ by_colour p s t
class_by_colour =
    over_lines (λ p s t f. 3 < p.width → 3 < p.height → f ≡ by_colour p s t)
    (λ p s t _ _ w h. high p s t h)
    (λ p s t f e w h. e w h ∙ by_colour_swap p t s)
    (λ p s t f e w h. e h w ∙ by_colour_turned p s t)

-- ---- the panel turned

-- a panel that is not tall is not turned, a tall one is
pub wide_class : (p : Panel) (s t : Cell) → p.height ≤ p.width → class_count p s t ≡ named p s t
unfolding class_count
wide_class p s t h = sym (cond_no _ _ (le-ltb _ _ h) refl)

pub tall_class : (p : Panel) (s t : Cell) → p.width < p.height → class_count p s t ≡ named (turned p) (turned_cell s) (turned_cell t)
unfolding class_count
tall_class p s t h = sym (cond_yes _ _ (lt-ltb _ _ h) refl)

-- a panel that is no square: the same class and count
oblong_class : (p : Panel) (s t : Cell) → p.width ≢ p.height → class_count (turned p) (turned_cell s) (turned_cell t) ≡ class_count p s t
oblong_class p s t n = go (ltb p.width p.height) refl
  where
    go : (a : Bool) → ltb p.width p.height ≡ a → class_count (turned p) (turned_cell s) (turned_cell t) ≡ class_count p s t
    go true e =
        let h = ltb-true p.width p.height e in
        wide_class (turned p) (turned_cell s) (turned_cell t) (omega arith) ∙ sym (tall_class p s t h)
    go false e =
        let h = ltb-false p.width p.height e in
        tall_class (turned p) (turned_cell s) (turned_cell t) (omega arith) ∙ sym (wide_class p s t h)

-- two different cells of a panel that is not tall, the left one first
record Ordered (p : Panel) (s t : Cell) : Type 0 where
  wide : p.height ≤ p.width
  on_s : OnPanel p s
  on_t : OnPanel p t
  differ : s ≢ t
  left : s.x ≤ t.x

record Square (p : Panel) (s t : Cell) : Type 0 where
  order : Ordered p s t
  same : p.width ≡ p.height

square_high : {p : Panel} {s t : Cell} → Square p s t → 2 ≤ p.height
square_high {p} {s} {t} q = go (leb 2 p.height) refl
  where
    go : (b : Bool) → leb 2 p.height ≡ b → 2 ≤ p.height
    go true e = leb-true _ _ e
    go false e = let h = leb-false 2 p.height e in absurd (q.order.differ (cell_eq (omega arith) (omega arith)))

square_f1 : {p : Panel} {s t : Cell} → Square p s t → f1 p s t ≡ false
square_f1 {p} {s} {t} q = not_f1 p s t (omega (arith, square_high q))

square_f3 : {p : Panel} {s t : Cell} → Square p s t → f3 p s t ≡ false
square_f3 {p} {s} {t} q = no_f3 p s t (λ f. omega (arith, q.same, f.rows, f.even))

-- a square of another side than 2: the colours decide
decided_square : {p : Panel} {s t : Cell} → Square p s t → p.height ≢ 2 → decided p s t ≡ by_colour p s t
decided_square {p} {s} {t} q n = decided_by_colour p s t (square_f1 q) (not_f2 p s t n) (square_f3 q)

square_class : (p : Panel) (s t : Cell) → p.width ≡ p.height → p.height ≢ 2 → OnPanel p s → OnPanel p t → s ≢ t
    → class_count p s t ≡ by_colour p s t
square_class =
    over_lines (λ p s t f. p.width ≡ p.height → p.height ≢ 2 → OnPanel p s → OnPanel p t → s ≢ t → f ≡ by_colour p s t)
    (λ p s t h k e two a b n. decided_square (record { order = record { wide = h; on_s = a; on_t = b; differ = n; left = k }; same = e }) two)
    (λ p s t f q e two a b n. q e two b a (λ r. n (sym r)) ∙ by_colour_swap p t s)
    (λ p s t f q e two a b n. q (sym e) (λ w. two (sym e ∙ w)) (turn_on a) (turn_on b) (λ r. n (ap turned_cell r)) ∙ by_colour_turned p s t)

-- every panel but 2 by 2: the same class and count for the panel turned
pub turned_class : (p : Panel) (s t : Cell) → OnPanel p s → OnPanel p t → s ≢ t → (p.width ≡ 2 → p.height ≢ 2)
    → class_count (turned p) (turned_cell s) (turned_cell t) ≡ class_count p s t
turned_class p s t a b n two = go (eqb p.width p.height) refl
  where
    go : (r : Bool) → eqb p.width p.height ≡ r → class_count (turned p) (turned_cell s) (turned_cell t) ≡ class_count p s t
    go true e =
        let q = eqb-true p.width p.height e in
        square_class (turned p) (turned_cell s) (turned_cell t) (sym q) (λ w. two w (sym q ∙ w)) (turn_on a) (turn_on b) (λ r. n (ap turned_cell r))
        ∙ by_colour_turned p s t
        ∙ sym (square_class p s t q (λ h. two (q ∙ h) h) a b n)
    go false e = oblong_class p s t (eqb-false _ _ e)

-- the count by the colours
abbrev colour_count : Panel → Cell → Cell → ℕ
colour_count p s t = (by_colour p s t).count.0

-- two by two: F2* gives what the colours give
differ_four : (b : Bool) → (coloured 4 false b (not b)).count.0 ≡ 4
differ_four true = refl
differ_four false = refl

agree_three : (b : Bool) → (coloured 4 false b b).count.0 ≡ 3
agree_three true = refl
agree_three false = refl

square_two : {p : Panel} {s t : Cell} → Square p s t → f2 p s t ≡ true → f2_count p.width (s.x + t.x) ≡ colour_count p s t
square_two {p} {s} {t} q e = ⊎_elim column (λ h. diagonal h.0 h.1) (f2_cases p s t e).1
  where
    high : p.height ≡ 2
    high = (f2_cases p s t e).0

    wide : p.width ≡ 2
    wide = q.same ∙ high

    four : area p ≡ 4
    four = λ i. wide i * high i

    -- of four cells
    coloured_four : {b : Bool} → black t ≡ b → colour_count p s t ≡ (coloured 4 false (black s) b).count.0
    coloured_four d = λ i. (coloured (four i) (odd (four i)) (black s) (d i)).count.0

    column : s.x ≡ t.x → f2_count p.width (s.x + t.x) ≡ colour_count p s t
    column h =
        let n : s.y ≢ t.y = λ r. q.order.differ (cell_eq h r) in
        let m : f2_count p.width (s.x + t.x) ≡ 4 = omega (arith, wide) in
        let d : black t ≡ not (black s) = parity_differ (t.x + t.y) (s.x + s.y) (omega (arith, wide, high)) in
        m ∙ sym (coloured_four d ∙ differ_four (black s))

    diagonal : s.x + 1 ≡ t.x → s.y ≢ t.y → f2_count p.width (s.x + t.x) ≡ colour_count p s t
    diagonal h n =
        let m : f2_count p.width (s.x + t.x) ≡ 3 = omega (arith, wide) in
        let a : (t.x + t.y) % 2 ≡ (s.x + s.y) % 2 = omega (arith, wide, high) in
        let d : black t ≡ black s = ap (λ (k : ℕ). eqb k 1) a in
        m ∙ sym (coloured_four d ∙ agree_three (black s))

square_decided : {p : Panel} {s t : Cell} → Square p s t → (decided p s t).count.0 ≡ colour_count p s t
unfolding decided
square_decided {p} {s} {t} q =
    rw (square_f1 q)
    (both_branches (λ (r : ClassCount). r.count.0 ≡ colour_count p s t) (f2 p s t) _ _ (square_two q)
    (λ e. ap (λ (r : ClassCount). r.count.0) (rest_by_colour p s t (square_f3 q))))

square_count : (p : Panel) (s t : Cell) → p.width ≡ p.height → OnPanel p s → OnPanel p t → s ≢ t → count p s t ≡ colour_count p s t
square_count =
    over_lines (λ p s t f. p.width ≡ p.height → OnPanel p s → OnPanel p t → s ≢ t → f.count.0 ≡ colour_count p s t)
    (λ p s t h k e a b n. square_decided (record { order = record { wide = h; on_s = a; on_t = b; differ = n; left = k }; same = e }))
    (λ p s t f q e a b n. q e b a (λ r. n (sym r)) ∙ ap (λ (r : ClassCount). r.count.0) (by_colour_swap p t s))
    (λ p s t f q e a b n.
    q (sym e) (turn_on a) (turn_on b) (λ r. n (ap turned_cell r)) ∙ ap (λ (r : ClassCount). r.count.0) (by_colour_turned p s t))

-- the same count for the panel turned
pub turned_count : (p : Panel) (s t : Cell) → OnPanel p s → OnPanel p t → s ≢ t → count (turned p) (turned_cell s) (turned_cell t) ≡ count p s t
turned_count p s t a b n = go (eqb p.width p.height) refl
  where
    go : (r : Bool) → eqb p.width p.height ≡ r → count (turned p) (turned_cell s) (turned_cell t) ≡ count p s t
    go true e =
        let q = eqb-true p.width p.height e in
        square_count (turned p) (turned_cell s) (turned_cell t) (sym q) (turn_on a) (turn_on b) (λ r. n (ap turned_cell r))
        ∙ ap (λ (r : ClassCount). r.count.0) (by_colour_turned p s t)
        ∙ sym (square_count p s t q a b n)
    go false e = ap (λ (r : ClassCount). r.count.0) (oblong_class p s t (eqb-false _ _ e))

-- ---- 2 ≤ count ≤ mn

abbrev Within : ℕ → ClassCount → Type 0
Within a r = (2 ≤ r.count.0) × (r.count.0 ≤ a)

module _ {p : Panel} {s t : Cell} (q : Ordered p s t) where
  -- one row: mn is m, and the terminals are in different columns
  row_area : p.height ≡ 1 → area p ≡ p.width
  row_area h = ap (λ (k : ℕ). p.width * k) h ∙ mul-one p.width

  row_apart : p.height ≡ 1 → s.x < t.x
  row_apart h = let n : s.x ≢ t.x = λ r. q.differ (cell_eq r (omega arith)) in omega arith

  row_or_more : (p.height ≡ 1) ⊎ (2 ≤ p.height)
  row_or_more = go (leb 2 p.height) refl
    where
      go : (b : Bool) → leb 2 p.height ≡ b → (p.height ≡ 1) ⊎ (2 ≤ p.height)
      go true e = inr (leb-true _ _ e)
      go false e = let h = leb-false 2 p.height e in inl (omega arith)

  more_area : 2 ≤ p.height → 4 ≤ area p
  more_area h = let w : 2 ≤ p.width = omega arith in mul-le-mul w h

  -- where F1 does not fit, the terminals of one row are its ends
  row_ends : f1 p s t ≡ false → p.height ≡ 1 → (s.x ≡ 1) × (t.x ≡ p.width)
  unfolding f1
  row_ends e h =
      ⊎_elim
      (λ a. ⊎_elim (λ b. absurd (bad (eqb-true _ _ a) (eqb-true _ _ b))) (λ b. (eqb-true _ _ a, eqb-true _ _ b))
      (or_cases (eqb t.x 1) (eqb t.x p.width) (and_right (end_cell p s) (end_cell p t) ends)))
      (λ a. absurd (last (eqb-true _ _ a)))
      (or_cases (eqb s.x 1) (eqb s.x p.width) (and_left (end_cell p s) (end_cell p t) ends))
    where
      ends : (end_cell p s && end_cell p t) ≡ true
      ends = not-false _ (subst (λ (b : Bool). (b && not (end_cell p s && end_cell p t)) ≡ false) (eq-eqb p.height 1 h) e)

      bad : s.x ≡ 1 → t.x ≡ 1 → ⊥
      bad a b = omega (arith, row_apart h)

      last : s.x ≡ p.width → ⊥
      last a = omega (arith, row_apart h)

  within_1 : f1 p s t ≡ true → Within (area p) (found 1 (t.x - s.x + 1))
  unfolding f1
  within_1 e =
      let h = eqb-true p.height 1 (and_left (eqb p.height 1) (not (end_cell p s && end_cell p t)) e) in
      omega (arith, row_area h, row_apart h)

  within_2 : f2 p s t ≡ true → Within (area p) (found 2 (f2_count p.width (s.x + t.x)))
  within_2 e =
      let a : area p ≡ p.width * 2 = ap (λ (k : ℕ). p.width * k) (f2_cases p s t e).0 in
      omega arith

  within_5 : f1 p s t ≡ false → c2 p s t ≡ true → Within (area p) (found 5 (area p - 2))
  within_5 e h = ⊎_elim row (λ k. omega (arith, more_area k)) row_or_more
    where
      row : p.height ≡ 1 → Within (area p) (found 5 (area p - 2))
      row k =
          absurd (⊎_elim
          (λ c. omega (arith, row_ends e k, row_area k, eqb-true (area p % 2) 1 c.0, black_sum s c.1))
          (λ c. omega arith)
          (c2_cases p s t h))

  within_3 : Within (area p) (found 3 (area p))
  within_3 = ⊎_elim (λ k. omega (arith, row_area k, row_apart k)) (λ k. omega (arith, more_area k)) row_or_more

  -- the two cells of one row have different colours
  two_cells : p.height ≡ 1 → s.x ≡ 1 → t.x ≡ p.width → p.width ≡ 2 → c0 p s t ≡ true
  unfolding c0
  two_cells h a b w =
      let o : odd (area p) ≡ false = ap odd (row_area h ∙ w) in
      let u : black s ≡ false = ne_eqb ((s.x + s.y) % 2) 1 (omega arith) in
      let v : black t ≡ true = eq-eqb ((t.x + t.y) % 2) 1 (omega arith) in
      λ i. cond (o i) (not (black s) && not (black t)) (cond (u i) (not (black t)) (v i))

  within_4 : f1 p s t ≡ false → c0 p s t ≡ false → Within (area p) (found 4 (area p - 1))
  within_4 e h = ⊎_elim row (λ k. omega (arith, more_area k)) row_or_more
    where
      three : p.height ≡ 1 → 3 ≤ p.width
      three k = go (leb 3 p.width) refl
        where
          go : (b : Bool) → leb 3 p.width ≡ b → 3 ≤ p.width
          go true r = leb-true _ _ r
          go false r =
              let m = leb-false 3 p.width r in
              let d = row_apart k in
              let z : ◌≡◌ {A = Bool} true false = sym (two_cells k (row_ends e k).0 (row_ends e k).1 (omega arith)) ∙ h in
              absurd (true≢false z)

      row : p.height ≡ 1 → Within (area p) (found 4 (area p - 1))
      row k = let w = three k in omega (arith, row_area k)

  within : Within (area p) (decided p s t)
  unfolding decided
  within =
      both_branches (Within (area p)) (f1 p s t) _ _ within_1
      (λ e. both_branches (Within (area p)) (f2 p s t) _ _ within_2
      (λ _. both_branches (Within (area p)) (c2 p s t) _ _ (within_5 e)
      (λ _. both_branches (Within (area p)) (c0 p s t) _ _ (λ _. within_3) (within_4 e))))

pub bounds : (p : Panel) (s t : Cell) → OnPanel p s → OnPanel p t → s ≢ t → (2 ≤ count p s t) × (count p s t ≤ area p)
bounds =
    over_lines (λ p s t f. OnPanel p s → OnPanel p t → s ≢ t → Within (area p) f)
    (λ p s t h k a b n. within (record { wide = h; on_s = a; on_t = b; differ = n; left = k }))
    (λ p s t f w a b n. w b a (λ r. n (sym r)))
    (λ p s t f w a b n. subst (λ (k : ℕ). Within k f) (area_turned p) (w (turn_on a) (turn_on b) (λ r. n (ap turned_cell r))))
