-- The tests of a list with cells behind it: each is the test of the list and what the last cell adds. So a walk along the list need not
-- look back at more than its last cell and at which cells it has met. And in which of two lists joined a cell stands.
use mathlib.Core.Path.{◌≡◌, refl, sym, ap, ◌∙◌}
use mathlib.Core.Bool.{Bool, true, false, not, ◌&&◌, ◌||◌, and-true, and_assoc, or_assoc, or_comm, or-false, true≢false}
use mathlib.Core.List.{List, [], ◌∷◌, ◌++◌}
use borrow.Author.Tests.{not-true}
use Rattle.grid.specs.declared.Panel.{Panel}
use Rattle.grid.specs.declared.Cell.{Cell}
use Rattle.grid.specs.Panel.{on_panel, same_cell, neighbours}
use Rattle.grid.proofs.Facts.{and_parts, neither, same_eq, eq_same, same_ne, ne_same}
use Rattle.list.specs.List.{all_on, steps_from, among, none_twice, last_from}

pub all_on_append : (p : Panel) (l k : List Cell) → all_on p (l ++ k) ≡ (all_on p l && all_on p k)
all_on_append p [] k = refl
all_on_append p (c ∷ l) k = ap (λ (b : Bool). on_panel p c && b) (all_on_append p l k) ∙ sym (and_assoc (on_panel p c) (all_on p l) (all_on p k))

pub last_behind : (d : Cell) (l : List Cell) (c : Cell) → last_from d (l ++ c ∷ []) ≡ c
last_behind d [] c = refl
last_behind d (e ∷ l) c = last_behind e l c

pub steps_behind : (d : Cell) (l : List Cell) (c : Cell) → steps_from d (l ++ c ∷ []) ≡ (steps_from d l && neighbours (last_from d l) c)
steps_behind d [] c = and-true (neighbours d c)
steps_behind d (e ∷ l) c =
    ap (λ (b : Bool). neighbours d e && b) (steps_behind e l c)
    ∙ sym (and_assoc (neighbours d e) (steps_from e l) (neighbours (last_from e l) c))

pub same_sym : (a b : Cell) → same_cell a b ≡ same_cell b a
same_sym a b = by_same (same_cell a b) refl
  where
    by_same : (r : Bool) → same_cell a b ≡ r → same_cell a b ≡ same_cell b a
    by_same true e = e ∙ sym (eq_same (sym (same_eq a b e)))
    by_same false e = e ∙ sym (ne_same b a (λ q. same_ne a b e (sym q)))

pub among_append : (c : Cell) (l k : List Cell) → among c (l ++ k) ≡ (among c l || among c k)
among_append c [] k = refl
among_append c (d ∷ l) k =
    ap (λ (b : Bool). same_cell c d || b) (among_append c l k) ∙ sym (or_assoc (same_cell c d) (among c l) (among c k))

pub among_behind : (d : Cell) (l : List Cell) (c : Cell) → among d (l ++ c ∷ []) ≡ (same_cell c d || among d l)
among_behind d l c =
    among_append d l (c ∷ [])
    ∙ or_comm (among d l) (same_cell d c || false)
    ∙ ap (λ (b : Bool). b || among d l) (or-false (same_cell d c) ∙ same_sym d c)

-- a cell that is the head of a list, or else stands behind it
pub by_head : {P : Type 0} (c d : Cell) (q : List Cell) → among c (d ∷ q) ≡ true
    → (c ≡ d → among c q ≡ false → P) → (among c q ≡ true → P) → P
by_head {P} c d q e here behind = go (among c q) (same_cell c d) refl refl e
  where
    go : (a b : Bool) → among c q ≡ a → same_cell c d ≡ b → (b || a) ≡ true → P
    go true b f g h = behind f
    go false true f g h = here (same_eq c d g) f
    go false false f g h = absurd (true≢false (sym h))

-- where no cell stands twice, one that stands in front does not stand behind
pub once_apart : (c : Cell) (l k : List Cell) → none_twice (l ++ k) ≡ true → among c l ≡ true → among c k ≡ false
once_apart c [] k o e = absurd (true≢false (sym e))
once_apart c (d ∷ l) k o e =
    let (fresh, rest) = and_parts (not (among d (l ++ k))) (none_twice (l ++ k)) o in
    let none : (among d l || among d k) ≡ false = sym (among_append d l k) ∙ not-true _ fresh in
    by_head c d l e (λ s _. ap (λ (a : Cell). among a k) s ∙ (neither (among d l) (among d k) none).1) (once_apart c l k rest)

none_swap : (e a n f : Bool) → (not (e || a) && (n && not f)) ≡ ((not a && n) && not (e || f))
none_swap true true n f = refl
none_swap true false true f = refl
none_swap true false false f = refl
none_swap false true n f = refl
none_swap false false n f = refl

pub none_twice_behind : (l : List Cell) (c : Cell) → none_twice (l ++ c ∷ []) ≡ (none_twice l && not (among c l))
none_twice_behind [] c = refl
none_twice_behind (d ∷ l) c =
    (λ i. not (among_behind d l c i) && none_twice_behind l c i) ∙ none_swap (same_cell c d) (among d l) (none_twice l) (among c l)
