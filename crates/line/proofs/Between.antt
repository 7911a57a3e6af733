-- Numbers between two others, in either order, and one step on the way: what a row's x and a column's y have in common.
-- Everything goes by whether the way leads up or down, in sums.
use Rattle.std.proofs.Common.{◌≡◌, ℕ, ◌+◌, ◌-◌, ◌<◌, ◌≤◌, min, max, Bool, cond, ◌≢◌, sym, ap, ◌∙◌, arith, le-leb}
use native.Mathlib.Decide.{dec_le, ℕ_discrete}
use borrow.Author.Tests.{lt-leb}
use Rattle.grid.specs.Panel.{dist}
use Rattle.line.specs.Rectangle.{ahead}

-- ---- cases

pub by_le {ℓ} : {C : Type ℓ} (a b : ℕ) → (a ≤ b → C) → (b < a → C) → C
by_le {C = C} a b f g = go (dec_le a b)
  where
    go : Dec (a ≤ b) → C
    go (yes h) = f h
    go (no h) = g (omega arith)

pub by_eq {ℓ} : {C : Type ℓ} (a b : ℕ) → (a ≡ b → C) → (a ≢ b → C) → C
by_eq {C = C} a b f g = go (ℕ_discrete a b)
  where
    go : Dec (a ≡ b) → C
    go (yes h) = f h
    go (no h) = g h

pub lt_le : {p q : ℕ} → q < p → q ≤ p
lt_le h = omega arith

-- ---- distances

pub dist_up : {p q : ℕ} → p ≤ q → dist p q + p ≡ q
unfolding dist
dist_up h = omega arith

pub dist_down : {p q : ℕ} → q ≤ p → dist p q + q ≡ p
unfolding dist
dist_down h = omega arith

pub dist_zero : (p : ℕ) → dist p p ≡ 0
unfolding dist
dist_zero p = omega arith

pub dist_same : {p q : ℕ} → p ≡ q → dist p q ≡ 0
dist_same {p} e = ap (dist p) (sym e) ∙ dist_zero p

pub dist_eq : (p q : ℕ) → dist p q ≡ 0 → p ≡ q
unfolding dist
dist_eq p q e = omega arith

pub dist_ne : (p q : ℕ) → p ≢ q → 1 ≤ dist p q
unfolding dist
dist_ne p q n = omega arith

pub dist_small : (p q : ℕ) → p ≤ 255 → q ≤ 255 → dist p q ≤ 255
unfolding dist
dist_small p q h k = omega arith

-- ---- between

-- r lies between p and q: on the way up, or on the way down
pub data Between (p q r : ℕ) : Type 0 where
  up : p ≤ r → r ≤ q → Between p q r
  down : q ≤ r → r ≤ p → Between p q r

pub between : (p q r : ℕ) → min p q ≤ r → r ≤ max p q → Between p q r
between p q r l h = by_le p q (λ e. Between.up (omega arith) (omega arith)) (λ e. Between.down (omega arith) (omega arith))

pub least : {p q r : ℕ} → Between p q r → min p q ≤ r
least (Between.up l h) = omega arith
least (Between.down l h) = omega arith

pub most : {p q r : ℕ} → Between p q r → r ≤ max p q
most (Between.up l h) = omega arith
most (Between.down l h) = omega arith

pub between_sym : {p q r : ℕ} → Between p q r → Between q p r
between_sym (Between.up l h) = Between.down l h
between_sym (Between.down l h) = Between.up l h

pub start_between : (p q : ℕ) → Between p q p
start_between p q = by_le p q (λ e. Between.up (omega arith) e) (λ e. Between.down (omega arith) (omega arith))

-- the two parts of a way add up
pub parts : {p q r : ℕ} → Between p q r → dist p r + dist q r ≡ dist p q
parts {p} {q} (Between.up l h) = let e : p ≤ q = omega arith in omega (arith, dist_up l, dist_down h, dist_up e)
parts {p} {q} (Between.down l h) = let e : q ≤ p = omega arith in omega (arith, dist_down h, dist_up l, dist_down e)

pub dist_less : {p q r : ℕ} → Between p q r → dist p r < dist p q + 1
dist_less b = omega (arith, parts b)

pub at_once : {p r : ℕ} → Between p p r → r ≡ p
at_once (Between.up l h) = omega arith
at_once (Between.down l h) = omega arith

pub below : {p q r : ℕ} → Between p q r → p ≤ 255 → q ≤ 255 → r ≤ 255
below b h k = omega (arith, most b)

-- ---- k steps ahead

pub ahead_up : {p q : ℕ} (k : ℕ) → p ≤ q → ahead p q k ≡ p + k
unfolding ahead
ahead_up {p} {q} k h = ap (λ (b : Bool). cond b (p + k) (p - k)) (le-leb p q h)

pub ahead_down : {p q : ℕ} (k : ℕ) → q < p → ahead p q k ≡ p - k
unfolding ahead
ahead_down {p} {q} k h = ap (λ (b : Bool). cond b (p + k) (p - k)) (lt-leb p q h)

lies_up : {p q r : ℕ} → p ≤ q → Between p q r → (p ≤ r) × (r ≤ q)
lies_up e (Between.up l h) = (l, h)
lies_up e (Between.down l h) = (omega arith, omega arith)

lies_down : {p q r : ℕ} → q ≤ p → Between p q r → (q ≤ r) × (r ≤ p)
lies_down e b = lies_up e (between_sym b)

-- the way from p to q, cut: k numbers from p to l, then those from m on
pub record Cut (p q k l m : ℕ) : Type 0 where
  pub before : (s : ℕ) → Between p l s → Between p q s
  pub behind : (s : ℕ) → Between m q s → Between p q s
  pub apart : (s : ℕ) → Between p l s → Between m q s → ⊥
  pub beside : dist l m ≡ 1
  pub size : dist p l + 1 ≡ k
  pub left : dist m q + k ≡ dist p q
  pub rest : (r : ℕ) → Between p q r → k ≤ dist p r → Between m q r × (dist m r + k ≡ dist p r)

cut_up : {p q k l m : ℕ} → 1 ≤ k → l + 1 ≡ p + k → m ≡ p + k → m ≤ q → Cut p q k l m
cut_up {p} {q} {k} {l} {m} o e f h =
    let a : p ≤ l = omega arith in
    let b : l ≤ m = omega arith in
    let c : p ≤ q = omega arith in
    record {
      before = λ s i. let x = lies_up a i in Between.up x.0 (omega (arith, x));
      behind = λ s i. let x = lies_up h i in Between.up (omega (arith, x)) x.1;
      apart = λ s i j. let x = lies_up a i in let y = lies_up h j in omega (arith, x, y);
      beside = omega (arith, dist_up b);
      size = omega (arith, dist_up a);
      left = omega (arith, dist_up h, dist_up c);
      rest = λ r i d. let x = lies_up c i in let y = dist_up x.0 in let z : m ≤ r = omega arith in (Between.up z x.1, omega (arith, dist_up z));
    }

cut_down : {p q k l m : ℕ} → 1 ≤ k → l + k ≡ p + 1 → m + k ≡ p → q ≤ m → Cut p q k l m
cut_down {p} {q} {k} {l} {m} o e f h =
    let a : l ≤ p = omega arith in
    let b : m ≤ l = omega arith in
    let c : q ≤ p = omega arith in
    record {
      before = λ s i. let x = lies_down a i in Between.down (omega (arith, x)) x.1;
      behind = λ s i. let x = lies_down h i in Between.down x.0 (omega (arith, x));
      apart = λ s i j. let x = lies_down a i in let y = lies_down h j in omega (arith, x, y);
      beside = omega (arith, dist_down b);
      size = omega (arith, dist_down a);
      left = omega (arith, dist_down h, dist_down c);
      rest = λ r i d.
          let x = lies_down c i in
          let y = dist_down x.1 in
          let z : r ≤ m = omega arith in
          (Between.down x.0 z, omega (arith, dist_down z));
    }

pub cut : (p q k : ℕ) → 1 ≤ k → k ≤ dist p q → Cut p q k (ahead p q (k - 1)) (ahead p q k)
cut p q k o h =
    by_le p q
    (λ e.
    let d = dist_up e in
    let a = ahead_up {p = p} {q = q} (k - 1) e in
    let b = ahead_up {p = p} {q = q} k e in
    cut_up o (omega arith) (omega arith) (omega arith))
    (λ e.
    let d = dist_down (lt_le e) in
    let a = ahead_down {p = p} {q = q} (k - 1) e in
    let b = ahead_down {p = p} {q = q} k e in
    cut_down o (omega arith) (omega arith) (omega arith))

pub between_part : {p q r s u : ℕ} → Between p q r → Between p q s → Between r s u → Between p q u
between_part {p} {q} {r} {s} {u} i j k =
    by_le p q
    (λ h. Between.up (omega (arith, lies_up h i, lies_up h j, least k)) (omega (arith, lies_up h i, lies_up h j, most k)))
    (λ h. let g = lt_le h in Between.down (omega (arith, lies_down g i, lies_down g j, least k)) (omega (arith, lies_down g i, lies_down g j, most k)))
