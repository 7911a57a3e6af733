-- The pigeonhole, with weights: if no cell stands twice in a list and all lie in some columns, then with the weights of its cells put to 0 the
-- columns weigh less by exactly what the list weighs. So the list weighs at most what they do.
-- By induction over the list: the weight of its first cell is put to 0, which takes that much from the columns and nothing from the rest of the list.
use Prim.Native.Nat.{ℕ, zero, suc, ◌+◌, ◌*◌, ◌≤◌, ◌<◌}
use mathlib.Core.Path.{◌≡◌, refl, sym, ap, ◌∙◌}
use mathlib.Core.Logic.{◌≢◌}
use mathlib.Core.Bool.{Bool, true, false, cond}
use mathlib.Core.List.{List, [], ◌∷◌}
use native.Mathlib.Omega.{arith}
use native.Mathlib.Decide.{ℕ_discrete}
use native.Mathlib.Nat.{add-zero, add-suc, add_assoc, mul-zero, mul-one}
use lib.ListN.{length}
use Rattle.grid.specs.declared.Panel.{Panel}
use Rattle.grid.specs.declared.Cell.{Cell}
use Rattle.grid.specs.Panel.{OnPanel, cell, same_cell}
use Rattle.grid.specs.Track.{All, Once}
use Rattle.grid.proofs.Facts.{eq_same, ne_same, ne_x, ne_y}
use Rattle.grid.proofs.Track.{all_map}
use Rattle.count.specs.Count.{area}
use Rattle.count.specs.Longest.{weight, partial_sum, columns_weight}

-- ---- sums

pub sum_linear : (f g : ℕ → ℕ) (a k d e : ℕ) → ((i : ℕ) → a < i → i ≤ a + k → f i ≡ d * g i + e)
    → partial_sum f a k ≡ d * partial_sum g a k + k * e
sum_linear f g a zero d e h = omega arith
sum_linear f g a (suc k) d e h = omega (arith, h (a + suc k) (omega arith) (omega arith), sum_linear f g a k d e (λ i p q. h i p (omega arith)))

pub sum_same : (f g : ℕ → ℕ) (a k : ℕ) → ((i : ℕ) → a < i → i ≤ a + k → f i ≡ g i) → partial_sum f a k ≡ partial_sum g a k
sum_same f g a k h = omega (arith, sum_linear f g a k 1 0 (λ i p q. omega (arith, h i p q)))

pub sum_const : (f : ℕ → ℕ) (a k e : ℕ) → ((i : ℕ) → a < i → i ≤ a + k → f i ≡ e) → partial_sum f a k ≡ k * e
sum_const f a k e h = omega (arith, sum_linear f (λ i. 0) a k 0 e (λ i p q. omega (arith, h i p q)))

sum_add : (f g h : ℕ → ℕ) (a k : ℕ) → ((i : ℕ) → f i + g i ≡ h i) → partial_sum f a k + partial_sum g a k ≡ partial_sum h a k
sum_add f g h a zero e = refl
sum_add f g h a (suc k) e = omega (arith, e (a + suc k), sum_add f g h a k e)

pub sum_both : (f g : ℕ → ℕ) (a k e : ℕ) → ((i : ℕ) → f i + g i ≡ e) → partial_sum f a k + partial_sum g a k ≡ k * e
sum_both f g a k e h = sum_add f g (λ i. e) a k h ∙ sum_const (λ i. e) a k e (λ i p q. refl)

-- a sum of sums, the other way round
pub sum_swap : (f : ℕ → ℕ → ℕ) (a k b n : ℕ) → partial_sum (λ x. partial_sum (f x) b n) a k ≡ partial_sum (λ y. partial_sum (λ x. f x y) a k) b n
sum_swap f a zero b n = sym (sum_const (λ y. 0) b n 0 (λ i p q. refl) ∙ mul-zero n)
sum_swap f a (suc k) b n = ap (λ (z : ℕ). partial_sum (f (a + suc k)) b n + z) (sum_swap f a k b n) ∙ sum_add (f (a + suc k)) (λ y. partial_sum (λ x. f x y) a k) (λ y. partial_sum (λ x. f x y) a (suc k)) b n (λ y. refl)

pub sum_split : (f : ℕ → ℕ) (a k j : ℕ) → partial_sum f a (k + j) ≡ partial_sum f a k + partial_sum f (a + k) j
sum_split f a k zero = rw (add-zero k) (omega arith)
sum_split f a k (suc j) = rw (add-suc k j) (omega (arith, sum_split f a k j, ap f (add_assoc a k (suc j)), ap f (ap (λ (i : ℕ). a + i) (add-suc k j))))

pub sum_first : (f : ℕ → ℕ) (a k : ℕ) → partial_sum f a (suc k) ≡ f (suc a) + partial_sum f (suc a) k
sum_first f a k =
    let e : suc k ≡ 1 + k = omega arith in
    let d : a + 1 ≡ suc a = omega arith in
    ap (partial_sum f a) e ∙ sum_split f a 1 k ∙ (λ i. add-zero (f (d i)) i + partial_sum f (d i) k)

-- two functions that are equal but at one place: their sums differ as they do there
sum_change : (f g : ℕ → ℕ) (a k i : ℕ) → a < i → i ≤ a + k → ((j : ℕ) → i ≢ j → g j ≡ f j)
    → partial_sum g a k + f i ≡ partial_sum f a k + g i
sum_change f g a zero i p q same = absurd (omega arith)
sum_change f g a (suc k) i p q same = elim (ℕ_discrete i (a + suc k)) [
  | yes t ↦ omega (arith, ap g t, ap f t, sum_same g f a k (λ j u v. same j (omega arith)))
  | no n ↦ omega (arith, same (a + suc k) n, sum_change f g a k i p (omega arith) same)
]

-- ---- columns of cells

-- a cell in the columns a + 1 to a + k of n rows
pub record InColumns (a k n : ℕ) (c : Cell) : Type 0 where
  pub left : a < c.x
  pub right : c.x ≤ a + k
  pub top : 1 ≤ c.y
  pub bottom : c.y ≤ n

pub in_columns : {p : Panel} {c : Cell} → OnPanel p c → InColumns 0 p.width p.height c
in_columns o = record { left = o.left; right = omega arith; top = o.top; bottom = o.bottom }

-- the weights w, but e at the cell c
pub put : Cell → ℕ → (Cell → ℕ) → Cell → ℕ
put c e w d = cond (same_cell c d) e (w d)

pub put_here : (c : Cell) (e : ℕ) (w : Cell → ℕ) (d : Cell) → c ≡ d → put c e w d ≡ e
unfolding put
put_here c e w d h = ap (λ (b : Bool). cond b e (w d)) (eq_same h)

pub put_there : (c : Cell) (e : ℕ) (w : Cell → ℕ) (d : Cell) → c ≢ d → put c e w d ≡ w d
unfolding put
put_there c e w d h = ap (λ (b : Bool). cond b e (w d)) (ne_same c d h)

pub put_bound : (c : Cell) (e : ℕ) (w : Cell → ℕ) (d : Cell) (k : ℕ) → e ≤ k → w d ≤ k → put c e w d ≤ k
unfolding put
put_bound c e w d k p q = go (same_cell c d)
  where
    go : (b : Bool) → cond b e (w d) ≤ k
    go true = p
    go false = q

pub put_weight : (c : Cell) (e : ℕ) (w : Cell → ℕ) (a k n : ℕ) → InColumns a k n c
    → columns_weight (put c e w) a k n + w c ≡ columns_weight w a k n + e
unfolding columns_weight
put_weight c e w a k n o =
    let column : (Cell → ℕ) → ℕ → ℕ = λ v x. partial_sum (λ y. v (cell x y)) 0 n in
    let v : Cell → ℕ = put c e w in
    omega (
      arith,
      sum_change (column w) (column v) a k c.x o.left o.right (λ x h. sum_same _ _ 0 n (λ y p q. put_there c e w (cell x y) (ne_x h))),
      sum_change (λ y. w (cell c.x y)) (λ y. v (cell c.x y)) 0 n c.y o.top (omega arith) (λ y h. put_there c e w (cell c.x y) (ne_y h)),
      put_here c e w c refl,
    )

-- ---- the pigeonhole

weight_same : {v w : Cell → ℕ} {l : List Cell} → All (λ d. v d ≡ w d) l → weight v l ≡ weight w l
weight_same All.none = refl
weight_same (All.more e a) = λ i. e i + weight_same a i

-- the weights w, but 0 at the cells of a list
abbrev pub without : List Cell → (Cell → ℕ) → Cell → ℕ
without [] w = w
without (c ∷ l) w = without l (put c 0 w)

-- with its cells put to 0, the columns weigh less by what the list weighs
pub taken : (w : Cell → ℕ) {l : List Cell} (a k n : ℕ) → Once l → All (InColumns a k n) l
    → columns_weight (without l w) a k n + weight w l ≡ columns_weight w a k n
taken w a k n Once.none All.none = add-zero _
taken w a k n (Once.more {c = c} h o) (All.more r q) =
    omega (arith, taken (put c 0 w) a k n o q, weight_same {v = put c 0 w} {w = w} (all_map (put_there c 0 w) h), put_weight c 0 w a k n r)

-- so the list weighs at most what they do
pub pigeon : (w : Cell → ℕ) {l : List Cell} (a k n : ℕ) → Once l → All (InColumns a k n) l → weight w l ≤ columns_weight w a k n
pigeon w a k n o q = omega (arith, taken w a k n o q)

-- ---- with weight 1: how many cells

pub weight_one : (l : List Cell) → weight (λ c. 1) l ≡ length l
weight_one [] = refl
weight_one (c ∷ l) = omega (arith, weight_one l)

columns_one : (a k n : ℕ) → columns_weight (λ c. 1) a k n ≡ k * n
unfolding columns_weight
columns_one a k n = sum_const _ a k n (λ i p q. sum_const _ 0 n 1 (λ j u v. refl) ∙ mul-one n)

-- a list without repeats of cells in k columns of n rows has at most k * n cells
pub at_most_columns : (a k n : ℕ) {l : List Cell} → Once l → All (InColumns a k n) l → length l ≤ k * n
at_most_columns a k n {l} o q = omega (arith, pigeon (λ c. 1) a k n o q, weight_one l, columns_one a k n)

-- a list without repeats of cells on a panel has at most mn cells
pub at_most_area : (p : Panel) {l : List Cell} → Once l → All (OnPanel p) l → length l ≤ area p
at_most_area p o q = at_most_columns 0 p.width p.height o (all_map (λ c. in_columns) q)
