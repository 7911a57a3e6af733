-- Positions: which they can be, in a list with cells behind it, and that on a list without repeats the position is the only place of its cell.
use Prim.Native.Nat.{ℕ, zero, suc, ◌+◌, ◌≤◌, ◌<◌}
use native.Mathlib.Omega.{arith}
use mathlib.Core.Path.{◌≡◌, refl, sym, ap, ◌∙◌}
use mathlib.Core.Bool.{Bool, true, false, cond, not, ◌||◌, true≢false}
use mathlib.Core.Logic.{◌≢◌, ◌⊎◌, inl, inr, ⊎_elim}
use mathlib.Core.List.{List, [], ◌∷◌, ◌++◌}
use lib.Dec.{eqb, eqb-suc-zero}
use lib.ListN.{length, take, drop}
use lib.Seq.{split_at, length-take-le}
use borrow.Author.Tests.{eqb-true, eq-eqb}
use Rattle.grid.specs.declared.Cell.{Cell}
use Rattle.grid.specs.Panel.{cell, same_cell}
use Rattle.grid.proofs.Facts.{same_eq, eq_same}
use Rattle.grid.proofs.Tests.{both_branches}
use Rattle.list.specs.List.{nth, among, none_twice}
use Rattle.list.proofs.Indexed.{new_index}
use Rattle.probe_walk.specs.Probes.{position_from, position}

-- computed: the first cell, the second, one that is not there
pub positions_shown : let l : List Cell = cell 1 1 ∷ cell 2 1 ∷ [] in
    (position (cell 1 1) l ≡ 1) × (position (cell 2 1) l ≡ 2) × (position (cell 3 1) l ≡ 0)
positions_shown = (refl, refl, refl)

-- 0 exactly if the cell is not on the list
pub position_none : (k : ℕ) (c : Cell) (l : List Cell) → eqb (position_from (suc k) c l) 0 ≡ not (among c l)
position_none k c [] = refl
position_none k c (d ∷ l) = go (same_cell c d) _ (position_none (suc k) c l)
  where
    go : (b : Bool) (r : ℕ) → eqb r 0 ≡ not (among c l) → eqb (cond b (suc k) r) 0 ≡ not (b || among c l)
    go true r e = eqb-suc-zero k
    go false r e = e

pub not_on : (c : Cell) (l : List Cell) → among c l ≡ false → position c l ≡ 0
not_on c l e = eqb-true _ _ (position_none 0 c l ∙ ap not e)

pub is_not_on : (c : Cell) (l : List Cell) → position c l ≡ 0 → among c l ≡ false
is_not_on c l e = go (among c l) refl
  where
    go : (b : Bool) → among c l ≡ b → b ≡ false
    go true f = absurd (true≢false (sym (eq-eqb _ _ e) ∙ position_none 0 c l ∙ ap not f))
    go false f = refl

pub some_position : (c : Cell) (l : List Cell) → among c l ≡ true → 1 ≤ position c l
some_position c l e = let some : position c l ≢ 0 = λ z. true≢false (sym e ∙ is_not_on c l z) in omega arith

pub is_on_list : (c : Cell) (l : List Cell) → position c l ≢ 0 → among c l ≡ true
is_on_list c l n = go (among c l) refl
  where
    go : (b : Bool) → among c l ≡ b → b ≡ true
    go true e = refl
    go false e = absurd (n (not_on c l e))

-- with cells behind: the position in front, or else behind
position_append : (k : ℕ) (c : Cell) (l m : List Cell)
    → position_from k c (l ++ m) ≡ cond (among c l) (position_from k c l) (position_from (k + length l) c m)
position_append k c [] m = let e : k ≡ k + 0 = omega arith in ap (λ (j : ℕ). position_from j c m) e
position_append k c (d ∷ l) m =
    let next : suc k + length l ≡ k + suc (length l) = omega arith in
    go (same_cell c d) _ _ (position_append (suc k) c l m ∙ ap (λ (j : ℕ). cond (among c l) (position_from (suc k) c l) (position_from j c m)) next)
  where
    go : (b : Bool) (s t : ℕ) {r : ℕ} → r ≡ cond (among c l) s t → cond b k r ≡ cond (b || among c l) (cond b k s) t
    go true s t e = refl
    go false s t e = e

pub position_by : (c : Cell) (l m : List Cell) {b : Bool} → among c l ≡ b
    → position c (l ++ m) ≡ cond b (position c l) (position_from (1 + length l) c m)
position_by c l m e = position_append 1 c l m ∙ ap (λ (b : Bool). cond b (position c l) (position_from (1 + length l) c m)) e

-- with one cell behind: its own position where it is new; that of another cell, and where it is not new any cell's, stays
pub position_new : (c : Cell) (l m : List Cell) → among c l ≡ false → position c (l ++ c ∷ m) ≡ 1 + length l
position_new c l m e =
    position_by c l (c ∷ m) e ∙ ap (λ (b : Bool). cond b (1 + length l) (position_from (suc (1 + length l)) c m)) (eq_same {a = c} refl)

pub position_other : (d : Cell) (l : List Cell) (c : Cell) → same_cell d c ≡ false → position d (l ++ c ∷ []) ≡ position d l
position_other d l c e = go (among d l) refl
  where
    go : (b : Bool) → among d l ≡ b → position d (l ++ c ∷ []) ≡ position d l
    go true f = position_by d l (c ∷ []) f
    go false f =
        position_by d l (c ∷ []) f ∙ ap (λ (b : Bool). cond b (1 + length l) 0) e ∙ sym (not_on d l f)

pub position_old : (d : Cell) (l : List Cell) (c : Cell) → among c l ≡ true → position d (l ++ c ∷ []) ≡ position d l
position_old d l c e = go (same_cell d c) refl
  where
    go : (b : Bool) → same_cell d c ≡ b → position d (l ++ c ∷ []) ≡ position d l
    go true f = position_by d l (c ∷ []) (ap (λ (a : Cell). among a l) (same_eq d c f) ∙ e)
    go false f = position_other d l c f

-- no position is past the end
position_below : (k : ℕ) (c : Cell) (l : List Cell) → position_from (suc k) c l ≤ k + length l
position_below k c [] = omega arith
position_below k c (d ∷ l) =
    both_branches (λ (j : ℕ). j ≤ k + suc (length l)) (same_cell c d) (suc k) (position_from (suc (suc k)) c l)
    (λ _. omega arith) (λ _. omega (arith, position_below (suc k) c l))

pub position_small : (c : Cell) (l : List Cell) → position c l ≤ length l
position_small c l = omega (arith, position_below 0 c l)

-- ---- the only place

position_late : (k : ℕ) (c : Cell) (l : List Cell) → (position_from k c l ≡ 0) ⊎ (k ≤ position_from k c l)
position_late k c [] = inl refl
position_late k c (d ∷ l) = go (same_cell c d) (position_late (suc k) c l)
  where
    go : (b : Bool) {r : ℕ} → (r ≡ 0) ⊎ (suc k ≤ r) → (cond b k r ≡ 0) ⊎ (k ≤ cond b k r)
    go true h = inr (omega arith)
    go false (inl e) = inl e
    go false (inr h) = inr (omega arith)

found_at : (k : ℕ) (c : Cell) (l : List Cell) (i : ℕ) → position_from (suc k) c l ≡ suc k + i → (i < length l) × (nth l i ≡ c)
found_at k c [] i e = absurd (omega arith)
found_at k c (d ∷ l) i e = go (same_cell c d) refl i e (found_at (suc k) c l)
  where
    go : (b : Bool) → same_cell c d ≡ b → (i : ℕ) → cond b (suc k) (position_from (suc (suc k)) c l) ≡ suc k + i
        → ((j : ℕ) → position_from (suc (suc k)) c l ≡ suc (suc k) + j → (j < length l) × (nth l j ≡ c))
        → (i < suc (length l)) × (nth (d ∷ l) i ≡ c)
    go true f zero e rest = (omega arith, sym (same_eq c d f))
    go true f (suc i) e rest = absurd (omega arith)
    go false f zero e rest = ⊎_elim (λ n. absurd (omega arith)) (λ h. absurd (omega arith)) (position_late (suc (suc k)) c l)
    go false f (suc i) e rest = let (h, g) = rest i (omega arith) in (omega arith, g)

-- a position that is given is a place of its cell
pub place_given : (c : Cell) (l : List Cell) (i : ℕ) → position c l ≡ suc i → (i < length l) × (nth l i ≡ c)
place_given c l i e = found_at 0 c l i (omega arith)

-- and where no cell stands twice, each place of a cell is its position: there is no other place
pub place_only : (c : Cell) (l : List Cell) (i : ℕ) → none_twice l ≡ true → i < length l → nth l i ≡ c → position c l ≡ suc i
place_only c l i once h e =
    let front = take i l in
    let parts = split_at l i (cell 0 0) h ∙ ap (λ (d : Cell). front ++ d ∷ drop (suc i) l) e in
    let new = ap (λ (d : Cell). among d front) (sym e) ∙ new_index l i once h in
    let n : 1 + length front ≡ suc i = omega (arith, length-take-le i l (omega arith)) in
    ap (position c) parts ∙ position_new c front (drop (suc i) l) new ∙ n

-- no two cells have one position
pub position_once : (c d : Cell) (l : List Cell) (i : ℕ) → position c l ≡ suc i → position d l ≡ suc i → c ≡ d
position_once c d l i e f = sym (place_given c l i e).1 ∙ (place_given d l i f).1
