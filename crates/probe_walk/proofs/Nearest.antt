-- The nearest cell in the words of the request: a cell of the list, every one before it farther, none behind it nearer.
use Prim.Native.Nat.{ℕ, ◌+◌, ◌≤◌, ◌<◌}
use native.Mathlib.Omega.{arith}
use mathlib.Core.Path.{◌≡◌, refl, sym, ap, subst, subst⁻¹, ◌∙◌}
use mathlib.Core.Bool.{Bool, true, false, cond}
use mathlib.Core.Logic.{◌≢◌}
use mathlib.Core.List.{List, [], ◌∷◌, ◌++◌, append_assoc, append-nil}
use lib.Dec.{leb}
use lib.ListN.{length, drop}
use borrow.Author.Tests.{leb-true, leb-false, le-leb, lt-leb}
use Rattle.grid.specs.declared.Cell.{Cell}
use Rattle.grid.specs.Panel.{cell, dist}
use Rattle.grid.specs.Track.{All}
use Rattle.grid.proofs.Lists.{drop_next}
use Rattle.grid.proofs.Tests.{both_branches, cond_yes, cond_no}
use Rattle.grid.proofs.Track.{all_map, all_append}
use Rattle.list.specs.List.{nth, squared_distance}
use Rattle.probe_walk.specs.Probes.{nearest_from, nearest}

-- computed: of (1, 1), (1, 2) and (1, 3) the second is nearest to (2, 2); (1, 1) and (3, 1) are as near, and the earlier is taken
pub nearest_shown : (nearest (cell 2 2) (cell 1 1 ∷ cell 1 2 ∷ cell 1 3 ∷ []) ≡ cell 1 2)
    × (nearest (cell 2 2) (cell 1 1 ∷ cell 3 1 ∷ []) ≡ cell 1 1)
unfolding dist
nearest_shown = (refl, refl)

-- a is the earliest of the nearest cells of l to c
pub record Nearest (c : Cell) (l : List Cell) (a : Cell) : Type 0 where
  pub before : List Cell
  pub behind : List Cell
  pub parts : l ≡ before ++ a ∷ behind
  pub farther : All (λ d. squared_distance c a < squared_distance c d) before
  pub no_nearer : All (λ d. squared_distance c a ≤ squared_distance c d) behind

-- with one cell more, which is taken if it is nearer
module _ {c : Cell} {l : List Cell} {a : Cell} (n : Nearest c l a) (b : Cell) where
  stays : squared_distance c a ≤ squared_distance c b → Nearest c (l ++ b ∷ []) a
  stays h = record {
    before = n.before;
    behind = n.behind ++ b ∷ [];
    parts = ap (λ (k : List Cell). k ++ b ∷ []) n.parts ∙ append_assoc n.before (a ∷ n.behind) (b ∷ []);
    farther = n.farther;
    no_nearer = all_append n.no_nearer (All.more h All.none);
  }

  changes : squared_distance c b < squared_distance c a → Nearest c (l ++ b ∷ []) b
  changes h = record {
    before = l;
    behind = [];
    parts = refl;
    farther = subst⁻¹ (All (λ d. squared_distance c b < squared_distance c d)) n.parts
        (all_append (all_map (λ d e. omega arith) n.farther) (All.more h (all_map (λ d e. omega arith) n.no_nearer)));
    no_nearer = All.none;
  }

nearest_from_lem : (c : Cell) (l : List Cell) (a : Cell) (m : List Cell) → Nearest c l a → Nearest c (l ++ m) (nearest_from c a m)
nearest_from_lem c l a [] n = subst⁻¹ (λ (k : List Cell). Nearest c k a) (append-nil l) n
nearest_from_lem c l a (b ∷ m) n =
    let next : Cell = cond (leb (squared_distance c a) (squared_distance c b)) a b in
    let one : Nearest c (l ++ b ∷ []) next =
    both_branches (Nearest c (l ++ b ∷ [])) (leb (squared_distance c a) (squared_distance c b)) a b
    (λ e. stays n b (leb-true _ _ e)) (λ e. changes n b (leb-false _ _ e)) in
    subst (λ (k : List Cell). Nearest c k (nearest_from c next m)) (append_assoc l (b ∷ []) m) (nearest_from_lem c (l ++ b ∷ []) next m one)

-- the nearest cell of a list that is not empty is that
pub nearest_right : (c : Cell) (l : List Cell) → l ≢ [] → Nearest c l (nearest c l)
nearest_right c [] e = absurd (e refl)
nearest_right c (a ∷ l) e =
    nearest_from_lem c (a ∷ []) a l (record { before = []; behind = []; parts = refl; farther = All.none; no_nearer = All.none })

-- ---- along the list

-- near, least away, is the nearest of the first i cells: with those to come it gives that of the whole list
pub record Nearer (c : Cell) (l : List Cell) (near : Cell) (least i : ℕ) : Type 0 where
  pub most : i ≤ length l
  pub to_come : nearest_from c near (drop i l) ≡ nearest c l
  pub away : least ≡ squared_distance c near

pub nearer_same : {c : Cell} {l : List Cell} {a b : Cell} {j k i : ℕ} → a ≡ b → j ≡ k → Nearer c l b k i → Nearer c l a j i
nearer_same {c} {l} {b = b} {j} {i = i} e f n = subst⁻¹ (λ (a : Cell). Nearer c l a j i) e (subst⁻¹ (λ (k : ℕ). Nearer c l b k i) f n)

pub first_nearest : (c : Cell) (l : List Cell) {a : Cell} {k : ℕ} → 1 ≤ length l → a ≡ nth l 0 → k ≡ squared_distance c a → Nearer c l a k 0
first_nearest c [] h e f = absurd (omega arith)
first_nearest c (b ∷ l) {a} h e f = record { most = omega arith; to_come = ap (λ (a : Cell). nearest_from c a (b ∷ l)) e ∙ itself; away = f }
  where
    both : (r : Bool) → cond r b b ≡ b
    both true = refl
    both false = refl

    itself : nearest_from c b (b ∷ l) ≡ nearest_from c b l
    itself = ap (λ (d : Cell). nearest_from c d l) (both (leb (squared_distance c b) (squared_distance c b)))

module _ {c : Cell} {l : List Cell} {near : Cell} {least i : ℕ} (n : Nearer c l near least i) where
  -- the next cell b
  module _ (h : i < length l) {b : Cell} (e : b ≡ nth l i) where
    next : nearest_from c (cond (leb (squared_distance c near) (squared_distance c b)) near b) (drop (i + 1) l) ≡ nearest c l
    next =
        let parts = drop_next (cell 0 0) l i h ∙ ap (λ (a : Cell). a ∷ drop (i + 1) l) (sym e) in
        sym (ap (nearest_from c near) parts) ∙ n.to_come

    pub nearer_kept : least ≤ squared_distance c b → Nearer c l near least (i + 1)
    nearer_kept k =
        let kept : squared_distance c near ≤ squared_distance c b = omega (arith, n.away) in
        record {
          most = omega arith;
          to_come = ap (λ (a : Cell). nearest_from c a (drop (i + 1) l)) (cond_yes near b (le-leb _ _ kept) refl) ∙ next;
          away = n.away;
        }

    pub nearer_now : {k : ℕ} → k ≡ squared_distance c b → k < least → Nearer c l b k (i + 1)
    nearer_now f k =
        let taken : squared_distance c b < squared_distance c near = omega (arith, n.away) in
        record {
          most = omega arith;
          to_come = ap (λ (a : Cell). nearest_from c a (drop (i + 1) l)) (cond_no near b (lt-leb _ _ taken) refl) ∙ next;
          away = f;
        }
