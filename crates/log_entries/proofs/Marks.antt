-- Places changed one by one, and the marks by which a repeated cell is found: a place that held less than the mark holds as much or more exactly
-- if its cell was met.
use Prim.Native.Nat.{ℕ, ◌+◌, ◌≤◌, ◌<◌}
use native.Mathlib.Omega.{arith}
use mathlib.Core.Path.{◌≡◌, refl, sym, ap, subst, ◌∙◌}
use mathlib.Core.Bool.{Bool, true, false, cond, not, ◌||◌}
use mathlib.Core.List.{List, [], ◌∷◌, ◌++◌}
use lib.ListN.{length, take, get_or, set, length-set}
use Rattle.grid.specs.declared.Panel.{Panel}
use Rattle.grid.specs.declared.Cell.{Cell}
use Rattle.grid.specs.Panel.{cell, area, OnPanel, same_cell}
use Rattle.grid.proofs.Facts.{test_fails, and_both, same_eq}
use Rattle.grid.proofs.Lists.{take_next}
use Rattle.list.specs.List.{nth, among, none_twice}
use Rattle.list.proofs.Behind.{among_behind, none_twice_behind}
use Rattle.list.proofs.Indexed.{new_index}
use Rattle.scratch.specs.Scratch.{place, held}
use Rattle.scratch.proofs.Marks.{held_set}
use Rattle.scratch.proofs.Places.{put_rest}
use Rattle.log_entries.specs.Marks.{HoldsBelow, Changed, added}

-- ---- one place more

pub none_changed : (p : Panel) (f : ℕ → ℕ) (s : List ℕ) → Changed p f [] s s
none_changed p f s = record { size = refl; rest = refl; holds = λ c o. refl }

module _ {p : Panel} {f : ℕ → ℕ} {l : List Cell} {old new : List ℕ} (g : Changed p f l old new) {c : Cell} (o : OnPanel p c)
    (fresh : among c l ≡ false) where
  -- the place of a cell that is not in the list holds what it held
  as_before : held p new c ≡ held p old c
  as_before = g.holds c o ∙ ap (λ (b : Bool). cond b (f (held p old c)) (held p old c)) fresh

  pub one_more : area p ≤ length old → {at v : ℕ} → at ≡ place p c → v ≡ f (held p old c) → Changed p f (l ++ c ∷ []) old (set new at v)
  one_more room {at} {v} here e = record {
    size = length-set new at v ∙ g.size;
    rest = put_rest o here new v ∙ g.rest;
    holds = λ d q. ap (λ (k : ℕ). held p (set new k v) d) here
        ∙ held_set new o v (omega (arith, g.size)) q
        ∙ by_same d q (same_cell c d) refl
        ∙ ap (λ (b : Bool). cond b (f (held p old d)) (held p old d)) (sym (among_behind d l c));
  }
    where
      by_same : (d : Cell) → OnPanel p d → (b : Bool) → same_cell c d ≡ b
          → cond b v (held p new d) ≡ cond (b || among d l) (f (held p old d)) (held p old d)
      by_same d q true s = e ∙ ap (λ (a : Cell). f (held p old a)) (same_eq c d s)
      by_same d q false s = g.holds d q

-- ---- marks

-- the mark m is added at the places of the first i cells, none of which stands twice
pub record Marking (p : Panel) (m : ℕ) (l : List Cell) (old new : List ℕ) (i : ℕ) : Type 0 where
  pub changed : Changed p (added m) (take i l) old new
  pub once : none_twice (take i l) ≡ true

-- the next cell, whose place is at
module _ {p : Panel} {m : ℕ} (l : List Cell) {old new : List ℕ} (i : ℕ) (k : Marking p m l old new i) (b : HoldsBelow p m old) (h : i < length l)
    (o : OnPanel p (nth l i)) {at : ℕ} (e : at ≡ place p (nth l i)) where
  abbrev c : Cell
  c = nth l i

  here : get_or new at 0 ≡ held p new c
  here = ap (λ (j : ℕ). get_or new j 0) e

  -- it was met before
  pub met : m ≤ get_or new at 0 → false ≡ none_twice l
  met q = sym (test_fails (none_twice l) (λ once. omega (arith, here, as_before k.changed o (new_index l i once h), b.less c o)))

  -- it is new
  module _ (q : get_or new at 0 < m) where
    fresh : among c (take i l) ≡ false
    fresh = test_fails (among c (take i l)) (λ a. omega (arith, here, marked a))
      where
        marked : among c (take i l) ≡ true → held p new c ≡ held p old c + m
        marked a = k.changed.holds c o ∙ ap (λ (r : Bool). cond r (held p old c + m) (held p old c)) a

    pub marked_next : Marking p m l old (set new at (get_or new at 0 + m)) (i + 1)
    marked_next = record {
      changed = subst (λ (t : List Cell). Changed p (added m) t old (set new at (get_or new at 0 + m))) (sym next)
          (one_more k.changed o fresh b.room e (ap (λ (j : ℕ). j + m) (here ∙ as_before k.changed o fresh)));
      once = ap none_twice next ∙ none_twice_behind (take i l) c ∙ and_both k.once (ap not fresh);
    }
      where
        next : take (i + 1) l ≡ take i l ++ c ∷ []
        next = take_next (cell 0 0) l i h
