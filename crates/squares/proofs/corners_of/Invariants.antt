-- The corners counted so far, and those of the list from two cells before i on, are the corners of the whole list.
use Prim.Native.Nat.{◌+◌, ◌-◌, ◌*◌}
use mathlib.Core.Path.{◌≡◌}
use lib.ListN.{drop}
use Rattle.grid.specs.Bytes.{cells_in}
use Rattle.squares.specs.Squares.{corners}
use Rattle.squares.proofs.corners_of.Given as goal

abbrev pub invariant-loop-i : goal.invariant-loop-i
invariant-loop-i l = l.corners + corners (cells_in (drop (2 * (l.i - 2)) l.list)) ≡ corners (cells_in l.list)
