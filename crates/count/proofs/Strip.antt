-- Three rows, m even, s black, t white (F3). Let c be odd with s's x ≤ c < t's x. A black cell of the columns 1 to c weighs 2, a white one 0,
-- a cell right of them 1 (`side`): the panel weighs mn − 1.
-- The two cells of a step weigh 2 together, but 1 if it crosses from column c to c + 1 in row 1 or 3 (`gate`), where column c is white.
-- No cell stands twice, so each gate is passed at most once: 2 * length + 3 ≤ 2 * (mn − 1) + 2 + 2 (`along`), and the length is even as mn is.
use Prim.Native.Nat.{ℕ, suc, ◌+◌, ◌-◌, ◌*◌, ◌/◌, ◌%◌, ◌≤◌, ◌<◌}
use mathlib.Core.Path.{◌≡◌, refl, sym, ap, ◌∙◌, subst}
use mathlib.Core.Bool.{Bool, cond}
use mathlib.Core.List.{List}
use native.Mathlib.Omega.{arith}
use native.Mathlib.Nat.{add-sub_of_le}
use native.Mathlib.Decide.{dec_le, ℕ_discrete}
use lib.ListN.{length}
use lib.Dec.{leb}
use borrow.Author.Tests.{le-leb, lt-leb}
use Rattle.grid.specs.declared.Cell.{Cell}
use Rattle.grid.specs.Panel.{Neighbours, cell}
use Rattle.grid.specs.Track.{Walk, All, Once}
use Rattle.grid.proofs.Facts.{beside_is, cell_eq, ne_x, beside_sym}
use Rattle.grid.proofs.Track.{first_in, last_in}
use Rattle.count.specs.Longest.{weight, partial_sum, columns_weight, if_black}
use Rattle.count.proofs.Pigeon.{InColumns, sum_linear, sum_const, sum_split, put, put_here, put_there, put_bound, put_weight, pigeon}
use Rattle.count.proofs.Colour.{row_two, alternate, even_length, columns_black}

-- ---- one lemma over the walk

first_weight : (e : Cell → ℕ) {s t : Cell} {l : List Cell} → Walk s t l → e s ≤ weight e l
first_weight e Walk.end = omega arith
first_weight e (Walk.step n w) = omega arith

-- k marked cells are passed by at most k − 1 steps from one to the next: a walk's first step, then the rest
marked : (a b k : ℕ) → a ≤ 1 → b ≤ 1 → b ≤ k → (a + b - 1) + (k - 1) ≤ a + k - 1
marked a b k p q r = omega arith

-- two cells weigh 2 or more together, or 1 less if both are marked by e, or by f
abbrev Heavy : (w e f : Cell → ℕ) → Cell → Cell → Type 0
Heavy w e f a b = 2 ≤ w a + w b + ((e a + e b - 1) + (f a + f b - 1))

-- a walk of such steps: its length, by its weight and its marked cells
module _ {R : Cell → Type 0} (w e f : Cell → ℕ) (e1 : (c : Cell) → e c ≤ 1) (f1 : (c : Cell) → f c ≤ 1)
    (heavy : (a b : Cell) → R a → R b → Neighbours a b → Heavy w e f a b) where
  along : {s t : Cell} {l : List Cell} → Walk s t l → All R l
      → 2 * length l + w s + w t ≤ 2 * weight w l + 2 + ((weight e l - 1) + (weight f l - 1))
  along Walk.end r = omega arith
  along (Walk.step {a = a} {b = b} {t = t} {l = l} n v) (All.more r q) =
      go (length l) (w a) (w b) (w t) (weight w l) _ _ _ _ _ _ (along v q) (heavy a b r (first_in v q) n)
      (marked (e a) (e b) (weight e l) (e1 a) (e1 b) (first_weight e v)) (marked (f a) (f b) (weight f l) (f1 a) (f1 b) (first_weight f v))
    where
      go : (k x y z u p q p' q' p'' q'' : ℕ) → 2 * k + y + z ≤ 2 * u + 2 + (p' + q') → 2 ≤ x + y + (p + q) → p + p' ≤ p'' → q + q' ≤ q''
          → 2 * suc k + x + z ≤ 2 * (x + u) + 2 + (p'' + q'')
      go k x y z u p q p' q' p'' q'' h i j m = omega arith

-- ---- cells of three rows

odd_half : (c : ℕ) → c % 2 ≡ 1 → 2 * (c * 3 / 2) + 1 ≡ c * 3
odd_half c o = let e : c ≡ 2 * (c / 2) + 1 = omega arith in rw e (go (c / 2))
  where
    go : (k : ℕ) → 2 * ((2 * k + 1) * 3 / 2) + 1 ≡ (2 * k + 1) * 3
    go k = omega arith

-- a step from column c or before it to a column after it
across : (c : ℕ) (a b : Cell) → Neighbours a b → a.x ≤ c → c < b.x → (a.x ≡ c) × (b.x ≡ c + 1) × (a.y ≡ b.y)
across c a b n p q = let h = beside_is n in omega arith

-- ---- the gates between the columns c and c + 1

module _ (c : ℕ) where
  blank : Cell → ℕ
  blank d = 0

  blank_weight : (m n : ℕ) → columns_weight blank 0 m n ≡ 0
  unfolding columns_weight blank
  blank_weight m n =
      let column : partial_sum (λ y. 0) 0 n ≡ 0 = omega (arith, sum_const (λ y. 0) 0 n 0 (λ y u v. refl)) in
      omega (arith, sum_const (λ x. partial_sum (λ y. 0) 0 n) 0 m 0 (λ x p q. column))

  -- marks the two cells beside the edge in row y
  gate : ℕ → Cell → ℕ
  gate y = put (cell c y) 1 (put (cell (c + 1) y) 1 blank)

  gate_left : (y : ℕ) (d : Cell) → c ≡ d.x → y ≡ d.y → gate y d ≡ 1
  unfolding gate
  gate_left y d p q = put_here _ 1 _ d (cell_eq p q)

  gate_right : (y : ℕ) (d : Cell) → c + 1 ≡ d.x → y ≡ d.y → gate y d ≡ 1
  unfolding gate
  gate_right y d p q = put_there _ 1 _ d (ne_x (omega arith)) ∙ put_here _ 1 blank d (cell_eq p q)

  gate_bound : (y : ℕ) (d : Cell) → gate y d ≤ 1
  unfolding gate blank
  gate_bound y d = put_bound _ 1 _ d 1 (omega arith) (put_bound _ 1 blank d 1 (omega arith) (omega arith))

  -- a list without repeats has at most the two cells
  gate_weight : (y m n : ℕ) {l : List Cell} → 1 ≤ c → c + 1 ≤ m → 1 ≤ y → y ≤ n → Once l → All (InColumns 0 m n) l
      → weight (gate y) l ≤ 2
  unfolding gate
  gate_weight y m n p q u v o r =
      let a : Cell = cell c y in
      let b : Cell = cell (c + 1) y in
      omega (
        arith,
        pigeon (put a 1 (put b 1 blank)) 0 m n o r,
        put_weight a 1 (put b 1 blank) 0 m n (omega arith),
        put_weight b 1 blank 0 m n (omega arith),
        blank_weight m n,
      )

  -- ---- the weights

  side : Cell → ℕ
  side d = cond (leb d.x c) (2 * if_black d) 1

  side_in : (d : Cell) → d.x ≤ c → side d ≡ 2 * if_black d
  unfolding side
  side_in d h = ap (λ (b : Bool). cond b (2 * if_black d) 1) (le-leb _ _ h)

  side_out : (d : Cell) → c < d.x → side d ≡ 1
  unfolding side
  side_out d h = ap (λ (b : Bool). cond b (2 * if_black d) 1) (lt-leb _ _ h)

  side_total : (r : ℕ) → c % 2 ≡ 1 → columns_weight side 0 (c + r) 3 + 1 ≡ (c + r) * 3
  unfolding columns_weight
  side_total r o =
      let column : (ℕ → ℕ) = λ x. partial_sum (λ y. side (cell x y)) 0 3 in
      let blacks : (ℕ → ℕ) = λ x. partial_sum (λ y. if_black (cell x y)) 0 3 in
      let twice : ((x : ℕ) → 0 < x → x ≤ 0 + c → column x ≡ 2 * blacks x + 0) = λ x p q.
      sum_linear (λ y. side (cell x y)) (λ y. if_black (cell x y)) 0 3 2 0 (λ y u v. omega (arith, side_in (cell x y) (omega arith))) in
      omega (
        arith,
        sum_split column 0 c r,
        sum_linear column blacks 0 c 2 0 twice,
        sum_const column (0 + c) r 3 (λ x p q. sum_const _ 0 3 1 (λ y u v. side_out (cell x y) (omega arith))),
        columns_black c 3,
        odd_half c o,
      )

  -- ---- the two cells of a step

  module _ (o : c % 2 ≡ 1) where
    -- a step over the edge: black in row 2, else through a gate
    crossing : (m : ℕ) (a b : Cell) → InColumns 0 m 3 a → a.x ≡ c → b.x ≡ c + 1 → a.y ≡ b.y → Heavy side (gate 1) (gate 3) a b
    crossing m a b r p q e =
        let i : side a ≡ 2 * if_black a = side_in a (omega arith) in
        let j : side b ≡ 1 = side_out b (omega arith) in
        elim (ℕ_discrete a.y 2) [
          | yes h ↦ omega (arith, row_two a h ∙ ap (λ (i : ℕ). i % 2) p ∙ o)
          | no h ↦ elim (ℕ_discrete a.y 1) [
            | yes k ↦ omega (arith, gate_left 1 a (sym p) (sym k), gate_right 1 b (sym q) (sym k ∙ e))
            | no k ↦ omega (arith, gate_left 3 a (sym p) (omega arith), gate_right 3 b (sym q) (omega arith))
          ]
        ]

    pair : (m : ℕ) (a b : Cell) → InColumns 0 m 3 a → InColumns 0 m 3 b → Neighbours a b → Heavy side (gate 1) (gate 3) a b
    pair m a b r q n = elim (dec_le a.x c) [
      | yes h ↦ elim (dec_le b.x c) [
        | yes k ↦ omega (arith, side_in a h, side_in b k, alternate n)
        | no k ↦ let x = across c a b n h (omega arith) in crossing m a b r x.0 x.1 x.2
      ]
      | no h ↦ elim (dec_le b.x c) [
        | yes k ↦ let x = across c b a (beside_sym n) k (omega arith) in let y = crossing m b a q x.0 x.1 x.2 in omega arith
        | no k ↦ omega (arith, side_out a (omega arith), side_out b (omega arith))
      ]
    ]

-- F3: a walk without repeats from a black s in the columns 1 to c to a white t right of them leaves two cells out
pub strip : (c m : ℕ) {s t : Cell} {l : List Cell} → c % 2 ≡ 1 → m % 2 ≡ 0 → s.x ≤ c → c < t.x → if_black s ≡ 1 → if_black t ≡ 0
    → Walk s t l → Once l → All (InColumns 0 m 3) l → length l + 2 ≤ m * 3
strip c m {s} {t} {l} o e p q ds dt w u a =
    let r : InColumns 0 m 3 t = last_in w a in
    let parts : c + (m - c) ≡ m = add-sub_of_le (omega arith) in
    let total = subst (λ (k : ℕ). columns_weight (side c) 0 k 3 + 1 ≡ k * 3) parts (side_total c (m - c) o) in
    go (length l) m _ _ _ _ _ _ e ((even_length w).1 (omega arith)) (pigeon (side c) 0 m 3 u a) total
    (gate_weight c 1 m 3 (omega arith) (omega arith) (omega arith) (omega arith) u a)
    (gate_weight c 3 m 3 (omega arith) (omega arith) (omega arith) (omega arith) u a)
    (side_in c s p) (side_out c t q)
    (along (side c) (gate c 1) (gate c 3) (gate_bound c 1) (gate_bound c 3) (pair c o m) w a)
  where
    halves : (a b : ℕ) → 2 * a < 2 * b * 3 → a < b * 3
    halves a b h = omega arith

    both_even : (k m : ℕ) → m % 2 ≡ 0 → k % 2 ≡ 0 → k < m * 3 → k + 2 ≤ m * 3
    both_even k m e f h = omega (arith, halves (k / 2) (m / 2) (omega arith))

    go : (k m x y z g h i : ℕ) → m % 2 ≡ 0 → k % 2 ≡ 0 → z ≤ i → i + 1 ≡ m * 3 → g ≤ 2 → h ≤ 2 → x ≡ 2 * if_black s → y ≡ 1
        → 2 * k + x + y ≤ 2 * z + 2 + ((g - 1) + (h - 1)) → k + 2 ≤ m * 3
    go k m x y z g h i e f a b c d j n q = both_even k m e f (omega arith)
