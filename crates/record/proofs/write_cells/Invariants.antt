-- The invariant: what the letters from i on still make of the buffer is what all of them make of it after the first cell.
use Prim.Native.Nat.{ℕ, ◌+◌, ◌*◌}
use mathlib.Core.Path.{◌≡◌}
use mathlib.Core.Bool.{true}
use mathlib.Core.List.{List, ◌++◌}
use lib.ListN.{length, take, drop}
use Rattle.grid.specs.declared.Cell.{Cell}
use Rattle.grid.specs.Panel.{OnPanel}
use Rattle.grid.specs.Bytes.{bytes}
use Rattle.step_letters.specs.Letters.{largest_panel, walk_from, walk_on}
use Rattle.list.specs.List.{all_on}
use Rattle.record.proofs.write_cells.Given as goal

-- the bytes of the whole list
abbrev pub whole : Cell → List ℕ → ℕ
whole s letters = 2 * length (walk_from s letters)

-- the first i letters' cells are put, and at is the last of them
pub record Puts (s : Cell) (letters old new : List ℕ) (at : Cell) (i : ℕ) : Type 0 where
  pub size : length new ≡ length old
  pub on : OnPanel largest_panel at
  pub left : all_on largest_panel (walk_on at (drop i letters)) ≡ true
  pub made : take 2 old ++ (bytes (walk_on s letters) ++ drop (whole s letters) old)
      ≡ take (2 * i + 2) new ++ (bytes (walk_on at (drop i letters)) ++ drop (whole s letters) new)

abbrev pub invariant-loop-i : goal.invariant-loop-i
invariant-loop-i l = Puts l.initial.at l.letters l.initial.list l.list l.at l.i
