-- The tests of a list of cells, each as the fact that it tests, and the other way round: every cell on the panel, each two successive cells
-- neighbours, no cell twice, a walk from s to t. Together they are the test of a track. Each law goes along the list.
use mathlib.Core.Path.{◌≡◌, refl, ap, subst}
use mathlib.Core.Bool.{Bool, true, false, not, ◌&&◌, ◌||◌, false≢true}
use mathlib.Core.Logic.{◌≢◌}
use mathlib.Core.List.{List, [], ◌∷◌}
use borrow.Author.Tests.{not-true}
use Rattle.grid.specs.declared.Panel.{Panel}
use Rattle.grid.specs.declared.Cell.{Cell}
use Rattle.grid.specs.Panel.{on_panel, OnPanel, Neighbours, same_cell, neighbours}
use Rattle.grid.specs.Track.{Walk, All, Once, Track}
use Rattle.grid.proofs.Facts.{and_left, and_right, and_both, neither, on, is_on, next, is_next, same_eq, eq_same, same_ne, ne_same}
use Rattle.list.specs.List.{all_on, steps_from, all_steps, among, none_twice, last_from, runs}

-- ---- every cell on the panel

pub all_on_lem : (p : Panel) (l : List Cell) → all_on p l ≡ true → All (OnPanel p) l
all_on_lem p [] e = All.none
all_on_lem p (c ∷ l) e = All.more (on p c (and_left (on_panel p c) (all_on p l) e)) (all_on_lem p l (and_right (on_panel p c) (all_on p l) e))

pub is_all_on : {p : Panel} {l : List Cell} → All (OnPanel p) l → all_on p l ≡ true
is_all_on All.none = refl
is_all_on (All.more o r) = and_both (is_on o) (is_all_on r)

-- ---- no cell twice

-- the cell differs from every cell of a list that it does not stand in
not_among : (c : Cell) (l : List Cell) → not (among c l) ≡ true → All (λ d. c ≢ d) l
not_among c [] e = All.none
not_among c (d ∷ l) e =
    let (here, behind) = neither (same_cell c d) (among c l) (not-true _ e) in
    All.more (same_ne c d here) (not_among c l (ap not behind))

pub is_not_among : {c : Cell} {l : List Cell} → All (λ d. c ≢ d) l → among c l ≡ false
is_not_among All.none = refl
is_not_among {c} (All.more {c = d} n r) = λ i. ne_same c d n i || is_not_among r i

pub once : (l : List Cell) → none_twice l ≡ true → Once l
once [] e = Once.none
once (c ∷ l) e =
    Once.more (not_among c l (and_left (not (among c l)) (none_twice l) e)) (once l (and_right (not (among c l)) (none_twice l) e))

pub is_once : {l : List Cell} → Once l → none_twice l ≡ true
is_once Once.none = refl
is_once (Once.more a r) = and_both (ap not (is_not_among a)) (is_once r)

-- ---- a walk from s to t

walk_from : (a t : Cell) (l : List Cell) → steps_from a l ≡ true → same_cell (last_from a l) t ≡ true → Walk a t (a ∷ l)
walk_from a t [] e f = subst (λ (u : Cell). Walk a u (a ∷ [])) (same_eq a t f) Walk.end
walk_from a t (b ∷ l) e f =
    Walk.step (next (and_left (neighbours a b) (steps_from b l) e)) (walk_from b t l (and_right (neighbours a b) (steps_from b l) e) f)

pub walk : (s t : Cell) (l : List Cell) → all_steps l ≡ true → runs s t l ≡ true → Walk s t l
walk s t [] e f = absurd (false≢true f)
walk s t (a ∷ l) e f =
    subst (λ (u : Cell). Walk u t (a ∷ l)) (same_eq a s (and_left (same_cell a s) (same_cell (last_from a l) t) f))
    (walk_from a t l e (and_right (same_cell a s) (same_cell (last_from a l) t) f))

steps_after : {a b t : Cell} {l : List Cell} → Neighbours a b → Walk b t l → steps_from a l ≡ true
steps_after n Walk.end = and_both (is_next n) refl
steps_after n (Walk.step m w) = and_both (is_next n) (steps_after m w)

pub walk_steps : {s t : Cell} {l : List Cell} → Walk s t l → all_steps l ≡ true
walk_steps Walk.end = refl
walk_steps (Walk.step n w) = steps_after n w

last_after : (a : Cell) {b t : Cell} {l : List Cell} → Walk b t l → last_from a l ≡ t
last_after a Walk.end = refl
last_after a (Walk.step {a = b} m w) = last_after b w

pub walk_runs : {s t : Cell} {l : List Cell} → Walk s t l → runs s t l ≡ true
walk_runs (Walk.end {a = a}) = and_both (eq_same {a = a} refl) (eq_same {a = a} refl)
walk_runs (Walk.step {a = a} n w) = and_both (eq_same {a = a} refl) (eq_same (last_after a w))

-- ---- a track

-- the four tests, which are a track's parts
pub record TrackTests (p : Panel) (s t : Cell) (l : List Cell) : Type 0 where
  pub on_panel_lem : all_on p l ≡ true
  pub steps : all_steps l ≡ true
  pub once : none_twice l ≡ true
  pub ends : runs s t l ≡ true

pub tests_track : {p : Panel} {s t : Cell} {l : List Cell} → TrackTests p s t l → Track p s t l
tests_track {p} {s} {t} {l} j =
    record { walk = walk s t l j.steps j.ends; once = once l j.once; within = all_on_lem p l j.on_panel_lem }

pub track_tests : {p : Panel} {s t : Cell} {l : List Cell} → Track p s t l → TrackTests p s t l
track_tests r = record {
  on_panel_lem = is_all_on r.within;
  steps = walk_steps r.walk;
  once = is_once r.once;
  ends = walk_runs r.walk;
}

-- the same as one test, which the checker computes
abbrev pub is_track : Panel → Cell → Cell → List Cell → Bool
is_track p s t l = (all_on p l && all_steps l) && (none_twice l && runs s t l)

pub track_sound : (p : Panel) (s t : Cell) (l : List Cell) → is_track p s t l ≡ true → Track p s t l
track_sound p s t l e =
    let a = and_left (all_on p l && all_steps l) (none_twice l && runs s t l) e in
    let b = and_right (all_on p l && all_steps l) (none_twice l && runs s t l) e in
    tests_track record {
      on_panel_lem = and_left (all_on p l) (all_steps l) a;
      steps = and_right (all_on p l) (all_steps l) a;
      once = and_left (none_twice l) (runs s t l) b;
      ends = and_right (none_twice l) (runs s t l) b;
    }
