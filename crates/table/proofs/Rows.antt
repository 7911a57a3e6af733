-- Each row of the table is tested once: it is a track between its ends with the count's cells, and so a longest one. For each two terminals the row
-- that is found, placed as it is found, has these terminals for its ends.
use Prim.Native.Nat.{ℕ, ◌-◌, ◌≤◌, ◌<◌}
use mathlib.Core.Path.{◌≡◌, refl, sym, ap, ◌∙◌}
use mathlib.Core.Bool.{Bool, true, not, cond, ◌&&◌}
use mathlib.Core.Logic.{◌≢◌}
use native.Mathlib.Omega.{arith}
use lib.Dec.{eqb, leb, ltb}
use borrow.Author.Tests.{eqb-true, ltb-true, leb-true}
use Rattle.grid.specs.declared.Panel.{Panel}
use Rattle.grid.specs.declared.Cell.{Cell}
use Rattle.grid.specs.Panel.{panel, cell, OnPanel, on_panel, same_cell, dist, apart}
use Rattle.grid.specs.Track.{Track}
use Rattle.grid.proofs.Facts.{and_left, and_right, and_both, same_eq, ne_same, is_on}
use Rattle.list.proofs.Tracks.{is_track, track_sound}
use Rattle.line.specs.Line.{line}
use Rattle.count.specs.Count.{count, class_count, named, decided, f1, f2, f3, c2, c0}
use Rattle.table.specs.declared.Placing.{Placing}
use Rattle.table.specs.Table.{row_size, row_cell, placed_cell, placing, placing_from}
use Rattle.table.proofs.Below.{each_below, below_each}

-- the panel over which is computed, of the usual pitch; count and cells go by the sides alone
abbrev pub three : Panel
three = panel 3 3 4000

-- ---- the rows, each tested once

-- the last cell of a row
abbrev pub last_cell : ℕ → Cell
last_cell k = row_cell k (row_size k - 1)

-- a track from the first cell to the last
abbrev track_test : ℕ → Bool
track_test k = is_track three (row_cell k 0) (last_cell k) (line (row_cell k) (row_size k))

-- the count's cells, so that it is a longest one
abbrev count_test : ℕ → Bool
count_test k = eqb (row_size k) (count three (row_cell k 0) (last_cell k))

-- 1 to 9 cells
abbrev size_test : ℕ → Bool
size_test k = leb 1 (row_size k) && leb (row_size k) 9

-- coordinates up to 3
abbrev small_at : ℕ → ℕ → Bool
small_at k j = leb (row_cell k j).x 3 && leb (row_cell k j).y 3

abbrev small_test : ℕ → Bool
small_test k = each_below (small_at k) 9

abbrev row_test : ℕ → Bool
row_test k = (track_test k && count_test k) && (size_test k && small_test k)

rows_pass : each_below row_test 8 ≡ true
unfolding apart dist class_count named decided f1 f2 f3 c2 c0
rows_pass = refl

module _ (k : ℕ) (h : k < 8) where
  passed : row_test k ≡ true
  passed = below_each row_test 8 rows_pass k h

  longest : (track_test k && count_test k) ≡ true
  longest = and_left (track_test k && count_test k) (size_test k && small_test k) passed

  numbers : (size_test k && small_test k) ≡ true
  numbers = and_right (track_test k && count_test k) (size_test k && small_test k) passed

  sizes : size_test k ≡ true
  sizes = and_left (size_test k) (small_test k) numbers

  pub row_track : Track three (row_cell k 0) (last_cell k) (line (row_cell k) (row_size k))
  row_track = track_sound three _ _ _ (and_left (track_test k) (count_test k) longest)

  pub row_count : row_size k ≡ count three (row_cell k 0) (last_cell k)
  row_count = eqb-true _ _ (and_right (track_test k) (count_test k) longest)

  pub row_some : 1 ≤ row_size k
  row_some = leb-true _ _ (and_left (leb 1 (row_size k)) (leb (row_size k) 9) sizes)

  pub row_most : row_size k ≤ 9
  row_most = leb-true _ _ (and_right (leb 1 (row_size k)) (leb (row_size k) 9) sizes)

  module _ (j : ℕ) (i : j < 9) where
    small : small_at k j ≡ true
    small = below_each (small_at k) 9 (and_right (size_test k) (small_test k) numbers) j i

    pub row_x : (row_cell k j).x ≤ 3
    row_x = leb-true _ _ (and_left (leb (row_cell k j).x 3) _ small)

    pub row_y : (row_cell k j).y ≤ 3
    row_y = leb-true _ _ (and_right (leb (row_cell k j).x 3) _ small)

-- ---- for each two terminals, the row that is found and how it is placed

abbrev ends_test : Cell → Cell → Placing → Bool
ends_test s t p =
    (ltb p.row 8 && eqb (row_size p.row) (count three s t))
    && (same_cell (placed_cell p 0) s && same_cell (placed_cell p (row_size p.row - 1)) t)

abbrev two_cells : Cell → Cell → Bool
two_cells s t = on_panel three s && (on_panel three t && not (same_cell s t))

abbrev pair_test : Cell → Cell → Bool
pair_test s t = cond (two_cells s t) (ends_test s t (placing s t)) true

-- at each cell with coordinates below 4
abbrev each_cell : (Cell → Bool) → Bool
each_cell f = each_below (λ x. each_below (λ y. f (cell x y)) 4) 4

each_cell_lem : (f : Cell → Bool) → each_cell f ≡ true → {c : Cell} → OnPanel three c → f c ≡ true
each_cell_lem f e {c} o =
    below_each (λ y. f (cell c.x y)) 4 (below_each (λ x. each_below (λ y. f (cell x y)) 4) 4 e c.x (omega (arith, o.right)))
    c.y (omega (arith, o.bottom))

pairs_pass : each_cell (λ s. each_cell (λ t. pair_test s t)) ≡ true
unfolding class_count named decided f1 f2 f3 c2 c0 placing placing_from
pairs_pass = refl

pub record Found (s t : Cell) (p : Placing) : Type 0 where
  pub row : p.row < 8
  pub size : row_size p.row ≡ count three s t
  pub first : placed_cell p 0 ≡ s
  pub last : placed_cell p (row_size p.row - 1) ≡ t

pub found : (s t : Cell) → OnPanel three s → OnPanel three t → s ≢ t → Found s t (placing s t)
found s t os ot ne =
    let p = placing s t in
    let two : two_cells s t ≡ true = and_both (is_on os) (and_both (is_on ot) (ap not (ne_same s t ne))) in
    let pair = each_cell_lem (λ t. pair_test s t) (each_cell_lem (λ s. each_cell (λ t. pair_test s t)) pairs_pass os) ot in
    let e = ap (λ (b : Bool). cond b (ends_test s t p) true) (sym two) ∙ pair in
    let f = and_left (ltb p.row 8 && eqb (row_size p.row) (count three s t)) _ e in
    let g = and_right (ltb p.row 8 && eqb (row_size p.row) (count three s t)) _ e in
    record {
      row = ltb-true _ _ (and_left (ltb p.row 8) _ f);
      size = eqb-true _ _ (and_right (ltb p.row 8) _ f);
      first = same_eq _ _ (and_left (same_cell (placed_cell p 0) s) _ g);
      last = same_eq _ _ (and_right (same_cell (placed_cell p 0) s) _ g);
    }
