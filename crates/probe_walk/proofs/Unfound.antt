-- How many different probed cells are still to be found, as the walk goes on and as probes are marked; and how many cells are read by then.
use Prim.Native.Nat.{ℕ, suc, ◌+◌, ◌≤◌, max}
use native.Mathlib.Omega.{arith}
use mathlib.Core.Path.{◌≡◌, refl, sym, ap, ◌∙◌}
use mathlib.Core.Bool.{Bool, true, false, cond, ◌&&◌, ◌||◌, false≢true, and-false}
use mathlib.Core.List.{List, [], ◌∷◌, ◌++◌}
use lib.Dec.{eqb}
use lib.ListN.{length, take, drop, take-append-drop, length-take}
use borrow.Author.Tests.{eqb-true, eqb-false, eq-eqb, ne_eqb}
use Rattle.grid.specs.declared.Cell.{Cell}
use Rattle.grid.specs.Panel.{cell, same_cell}
use Rattle.grid.proofs.Facts.{neither, and_parts, and_both, same_eq, eq_same}
use Rattle.grid.proofs.Tests.{both_branches, cond_yes, cond_no}
use Rattle.list.specs.List.{among}
use Rattle.list.proofs.Behind.{among_append, among_behind, by_head}
use Rattle.probe_walk.specs.Probes.{position, all_among, furthest, cells_read}
use Rattle.probe_walk.specs.Search.{unfound}
use Rattle.probe_walk.proofs.Positions.{position_by, position_small}

-- ---- cells of a list

-- a cell that is not the one behind a list stands in both or in neither
among_other : (d : Cell) (l : List Cell) (c : Cell) → same_cell c d ≡ false → among d (l ++ c ∷ []) ≡ among d l
among_other d l c e = among_behind d l c ∙ ap (λ (b : Bool). b || among d l) e

among_last : (l : List Cell) (c : Cell) → among c (l ++ c ∷ []) ≡ true
among_last l c = among_behind c l c ∙ ap (λ (b : Bool). b || among c l) (eq_same {a = c} refl)

among_front : (c : Cell) (l m : List Cell) → among c l ≡ true → among c (l ++ m) ≡ true
among_front c l m e = among_append c l m ∙ ap (λ (b : Bool). b || among c m) e

-- ---- those still to be found

-- whether the probe c, with those behind it, is one more
abbrev more : Cell → List Cell → List Cell → ℕ
more c q l = cond (among c q) 0 (cond (among c l) 0 1)

-- a cell that is not probed leaves them as they are
pub unfound_other : (q l : List Cell) (c : Cell) → among c q ≡ false → unfound q (l ++ c ∷ []) ≡ unfound q l
unfound_other [] l c e = refl
unfound_other (d ∷ q) l c e =
    let (n, f) = neither (same_cell c d) (among c q) e in
    λ i. cond (among d q) 0 (cond (among_other d l c n i) 0 1) + unfound_other q l c f i

-- one that is probed and new is one less
pub unfound_one : (q l : List Cell) (c : Cell) → among c q ≡ true → among c l ≡ false → suc (unfound q (l ++ c ∷ [])) ≡ unfound q l
unfound_one [] l c e n = absurd (false≢true e)
unfound_one (d ∷ q) l c e n = by_head c d q e here (λ f. behind f (unfound_one q l c f n))
  where
    here : c ≡ d → among c q ≡ false → suc (unfound (d ∷ q) (l ++ c ∷ [])) ≡ unfound (d ∷ q) l
    here s f =
        let last : more d q (l ++ c ∷ []) ≡ 0 = ap (λ (a : Cell). more a q (l ++ c ∷ [])) (sym s)
        ∙ (λ i. cond (f i) 0 (cond (among_last l c i) 0 1)) in
        let first : more d q l ≡ 1 = ap (λ (a : Cell). more a q l) (sym s) ∙ (λ i. cond (f i) 0 (cond (n i) 0 1)) in
        omega (arith, unfound_other q l c f)

    same : among c q ≡ true → (b : Bool) → same_cell c d ≡ b → more d q (l ++ c ∷ []) ≡ more d q l
    same f true s =
        let g : among d q ≡ true = ap (λ (a : Cell). among a q) (sym (same_eq c d s)) ∙ f in
        let none : (k : List Cell) → more d q k ≡ 0 = λ k. ap (λ (b : Bool). cond b 0 (cond (among d k) 0 1)) g in
        none (l ++ c ∷ []) ∙ sym (none l)
    same f false s = λ i. cond (among d q) 0 (cond (among_other d l c s i) 0 1)

    behind : among c q ≡ true → suc (unfound q (l ++ c ∷ [])) ≡ unfound q l → suc (unfound (d ∷ q) (l ++ c ∷ [])) ≡ unfound (d ∷ q) l
    behind f e = omega (arith, same f (same_cell c d) refl)

-- none is left exactly if every probe is on the list
pub member : (q l : List Cell) (c : Cell) → all_among q l ≡ true → among c q ≡ true → among c l ≡ true
member [] l c a e = absurd (false≢true e)
member (d ∷ q) l c a e =
    let (h, r) = and_parts (among d l) (all_among q l) a in
    by_head c d q e (λ s _. ap (λ (a : Cell). among a l) s ∙ h) (member q l c r)

pub unfound_none : (q l : List Cell) → eqb (unfound q l) 0 ≡ all_among q l
unfound_none [] l = refl
unfound_none (c ∷ q) l = go (all_among q l) (among c q) refl refl (unfound_none q l)
  where
    go : (a b : Bool) → all_among q l ≡ a → among c q ≡ b → eqb (unfound q l) 0 ≡ a
        → eqb (cond b 0 (cond (among c l) 0 1) + unfound q l) 0 ≡ (among c l && a)
    go true true e f n = eq-eqb (0 + unfound q l) 0 (omega (arith, eqb-true (unfound q l) 0 n)) ∙ sym (and_both (member q l c e f) refl)
    go true false e f n = by_last (among c l)
      where
        by_last : (b : Bool) → eqb (cond b 0 1 + unfound q l) 0 ≡ (b && true)
        by_last true = eq-eqb (0 + unfound q l) 0 (omega (arith, eqb-true (unfound q l) 0 n))
        by_last false = ne_eqb (1 + unfound q l) 0 (λ h. omega arith)
    go false b e f n =
        let some = eqb-false (unfound q l) 0 n in
        ne_eqb (cond b 0 (cond (among c l) 0 1) + unfound q l) 0 (λ h. omega (arith, some)) ∙ sym (and-false (among c l))

-- a probe marked: its cell is one more unless it was there
pub unfound_marked : (q : List Cell) (c : Cell) → unfound (q ++ c ∷ []) [] ≡ unfound q [] + cond (among c q) 0 1
unfound_marked [] c = refl
unfound_marked (d ∷ q) c = go (same_cell c d) refl (unfound_marked q c)
  where
    go : (b : Bool) → same_cell c d ≡ b → unfound (q ++ c ∷ []) [] ≡ unfound q [] + cond (among c q) 0 1
        → unfound (d ∷ q ++ c ∷ []) [] ≡ unfound (d ∷ q) [] + cond (b || among c q) 0 1
    go true s e =
        let d-c = same_eq c d s in
        let there : more d (q ++ c ∷ []) [] ≡ 0 = ap (λ (a : Cell). more a (q ++ c ∷ []) []) (sym d-c) ∙ ap (λ (b : Bool). cond b 0 1) (among_last q c) in
        let here : more d q [] ≡ cond (among c q) 0 1 = ap (λ (a : Cell). more a q []) (sym d-c) in
        omega arith
    go false s e =
        let here : more d (q ++ c ∷ []) [] ≡ more d q [] = ap (λ (b : Bool). cond b 0 1) (among_other d q c s) in
        omega arith

-- ---- the cells read

-- computed, of three cells: no probe; the second and the first; the first twice; the second and one that is missed
pub reads_shown : let l : List Cell = cell 1 1 ∷ cell 2 1 ∷ cell 3 1 ∷ [] in
    (cells_read [] l ≡ 0) × (cells_read (cell 2 1 ∷ cell 1 1 ∷ []) l ≡ 2) × (cells_read (cell 1 1 ∷ cell 1 1 ∷ []) l ≡ 1)
    × (cells_read (cell 2 1 ∷ cell 4 1 ∷ []) l ≡ 3)
reads_shown = (refl, refl, refl, refl)

furthest_small : (q l : List Cell) → furthest q l ≤ length l
furthest_small [] l = omega arith
furthest_small (c ∷ q) l = omega (arith, position_small c l, furthest_small q l)

furthest_least : (q l : List Cell) (c : Cell) → among c q ≡ true → position c l ≤ furthest q l
furthest_least [] l c e = absurd (false≢true e)
furthest_least (d ∷ q) l c e =
    by_head c d q e
    (λ s _. let f : position c l ≡ position d l = ap (λ (a : Cell). position a l) s in omega arith)
    (λ f. omega (arith, furthest_least q l c f))

-- nothing is read for an empty list; the last cell is the furthest where it is probed
pub furthest_none : (q : List Cell) → furthest q [] ≡ 0
furthest_none q = omega (arith, furthest_small q [])

pub furthest_last : (q l : List Cell) (c : Cell) → among c q ≡ true → position c l ≡ length l → furthest q l ≡ length l
furthest_last q l c e f = omega (arith, furthest_small q l, furthest_least q l c e)

-- where every probe is on the front, cells behind change nothing
all_front : (q l m : List Cell) → all_among q l ≡ true → (all_among q (l ++ m) ≡ true) × (furthest q (l ++ m) ≡ furthest q l)
all_front [] l m e = (refl, refl)
all_front (c ∷ q) l m e =
    let (a, r) = and_parts (among c l) (all_among q l) e in
    let (s, f) = all_front q l m r in
    (and_both (among_front c l m a) s, λ i. max (position_by c l m a i) (f i))

-- the walk stops where none is left, at the furthest; or at the end
pub read_stopped : (q l m : List Cell) → all_among q l ≡ true → furthest q l ≡ length l → length l ≡ cells_read q (l ++ m)
read_stopped q l m e f = let (a, g) = all_front q l m e in cond_yes _ _ a (sym f ∙ sym g)

pub read_all : (q l : List Cell) → all_among q l ≡ false → length l ≡ cells_read q l
read_all q l e = cond_no _ _ e refl

pub read_small : (q l : List Cell) → cells_read q l ≤ length l
read_small q l = both_branches (λ (k : ℕ). k ≤ length l) (all_among q l) (furthest q l) (length l) (λ _. furthest_small q l) (λ _. omega arith)

-- however far one reads: where every probe is found by then, the walk reads no further
pub read_least : (q l : List Cell) (k : ℕ) → all_among q (take k l) ≡ true → cells_read q l ≤ k
read_least q l k e =
    let front = take k l in
    let (a, f) = all_front q front (drop k l) e in
    let whole = take-append-drop k l in
    let all : cells_read q l ≡ furthest q front = sym (cond_yes _ _ (sym (ap (all_among q) whole) ∙ a) refl) ∙ sym (ap (furthest q) whole) ∙ f in
    omega (arith, furthest_small q front, length-take k l)
