-- What Judge's checks say where they refuse nothing, and what the call answers then and where they refuse.
use Rattle.std.specs.Prelude.{Ok, Err}
use Prim.Native.Nat.{ℕ, ◌≤◌}
use native.Mathlib.Omega.{arith}
use mathlib.Core.Path.{◌≡◌, refl, sym, ap}
use mathlib.Core.Bool.{true}
use mathlib.Core.List.{List, [], ◌∷◌}
use lib.Dec.{leb}
use lib.ListN.{length}
use borrow.Author.Tests.{leb-true, le-leb}
use Rattle.grid.specs.declared.Panel.{Panel}
use Rattle.grid.specs.declared.Cell.{Cell}
use Rattle.grid.specs.declared.Refusal.TheVariants.{CellOff, Repeated, WrongEnds}
use Rattle.grid.specs.Check.{Check}
use Rattle.grid.specs.Panel.{panel, cell, area, dist, apart}
use Rattle.grid.specs.Check.{expect, check_order}
use Rattle.grid.specs.Track.{Track}
use Rattle.grid.specs.Bytes.{cells_in}
use Rattle.grid.proofs.Answers.{gives_cells}
use Rattle.grid.proofs.Facts.{area_small}
use Rattle.grid.proofs.Tests.{expect_yes, after_good, answer_good}
use Rattle.grid.proofs.Passed.{expect_passed, expect_rest, after_passed, after_rest, GoodOrder, good_order, is_order}
use Rattle.list.specs.List.{whole_cells, none_twice, runs}
use Rattle.list.specs.Check.{check_walk}
use Rattle.list.proofs.Checks.{walk_good, is_walk_good}
use Rattle.list.proofs.Tracks.{TrackTests, track_tests}
use Rattle.pigeonhole.proofs.Long.{tested_few}
use Rattle.scratch.specs.Scratch.{cleared}
use Rattle.judge.specs.Judge.{sizes_check, cells_check, judge_check, Judges}

-- ---- computed

-- on a panel of 2 by 1 from (1, 1) to (2, 1)
abbrev checked : List Cell → Check
checked l = cells_check (panel 2 1 4000) (cell 1 1) (cell 2 1) l

-- lists longer than the panel: a repeat at the end; two; a cell off the panel; a repeat, then a cell off it. The first ends elsewhere too: 9 is
-- tested before 11.
pub long_shown : (checked (cell 1 1 ∷ cell 2 1 ∷ cell 1 1 ∷ []) ≡ Err Repeated)
    × (checked (cell 1 1 ∷ cell 2 1 ∷ cell 1 1 ∷ cell 2 1 ∷ []) ≡ Err Repeated)
    × (checked (cell 1 1 ∷ cell 2 1 ∷ cell 3 1 ∷ []) ≡ Err CellOff)
    × (checked (cell 1 1 ∷ cell 2 1 ∷ cell 1 1 ∷ cell 0 1 ∷ []) ≡ Err CellOff)
unfolding apart dist
long_shown = (refl, refl, refl, refl)

-- ---- what passed checks say

-- what is known once the refusals before 7 are passed
pub record Sized (p : Panel) (s t : Cell) (bytes room : ℕ) : Type 0 where
  pub ordered : GoodOrder p s t
  pub whole : whole_cells bytes ≡ true
  pub enough : area p ≤ room

pub sized : (p : Panel) (s t : Cell) (bytes room : ℕ) → sizes_check p s t bytes room ≡ Ok tt → Sized p s t bytes room
sized p s t bytes room e =
    let rest = after_rest (check_order p s t) _ e in
    let last = expect_rest (whole_cells bytes) _ _ rest in
    record {
      ordered = good_order p s t (after_passed (check_order p s t) _ e);
      whole = expect_passed (whole_cells bytes) _ _ rest;
      enough = leb-true (area p) room (expect_passed (leb (area p) room) _ _ last);
    }

pub is_sized : {p : Panel} {s t : Cell} {bytes room : ℕ} → Sized p s t bytes room → Ok tt ≡ sizes_check p s t bytes room
is_sized {p} {room = room} z =
    after_good _ (sym (is_order z.ordered))
    (expect_yes _ _ z.whole
    (expect_yes _ _ (le-leb (area p) room z.enough) refl))

-- a list that passes the tests of its cells passes those of a track, and a track passes them
pub passed : (p : Panel) (s t : Cell) (l : List Cell) → cells_check p s t l ≡ Ok tt → TrackTests p s t l
passed p s t l e =
    let (o, n) = walk_good p l (after_passed (check_walk p l) _ e) in
    let rest = after_rest (check_walk p l) _ e in
    let ends = expect (runs s t l) WrongEnds (Ok tt) in
    record {
      on_panel_lem = o;
      steps = n;
      once = expect_passed (none_twice l) _ ends rest;
      ends = expect_passed (runs s t l) _ _ (expect_rest (none_twice l) _ ends rest);
    }

pub is_passed : {p : Panel} {s t : Cell} {l : List Cell} → Track p s t l → Ok tt ≡ cells_check p s t l
is_passed {p} {l = l} r =
    let j = track_tests r in
    after_good _ (is_walk_good p l j.on_panel_lem j.steps)
    (expect_yes _ _ j.once
    (expect_yes _ _ j.ends refl))

-- a list that passes all tests has at most 16,384 cells, however long lists may be
pub count_small : (p : Panel) (s t : Cell) (list : List ℕ) (room : ℕ) → judge_check p s t list room ≡ Ok tt → length (cells_in list) ≤ 16384
count_small p s t list room e =
    let sizes = sizes_check p s t (length list) room in
    let z = sized p s t (length list) room (after_passed sizes _ e) in
    let j = passed p s t (cells_in list) (after_rest sizes _ e) in
    omega (arith, tested_few p (cells_in list) j.on_panel_lem j.once, area_small z.ordered.panel.sides)

-- the promise, where all is good
pub all_good : (p : Panel) (s t : Cell) (list old : List ℕ) → sizes_check p s t (length list) (length old) ≡ Ok tt
    → {new : List ℕ} → new ≡ cleared p old → cells_check p s t (cells_in list) ≡ Ok tt → {k : ℕ} → k ≡ length (cells_in list)
    → Judges p s t list old new (Ok (record { 0 = k }))
all_good p s t list old z f e n = record {
  gives = gives_cells _ _ (answer_good _ _ (sym (after_good _ z (sym e))) (ap (λ (k : ℕ). Ok (record { 0 = k })) n));
  scratch = answer_good _ _ z f;
}
