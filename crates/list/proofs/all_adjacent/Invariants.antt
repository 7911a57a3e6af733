-- The tests of the steps from the cell before i on amount to those of the whole list.
use Prim.Native.Nat.{◌*◌, ◌-◌}
use mathlib.Core.Path.{◌≡◌}
use lib.ListN.{drop}
use Rattle.grid.specs.Bytes.{cells_in}
use Rattle.list.specs.List.{all_steps}
use Rattle.list.proofs.all_adjacent.Given as goal

abbrev pub invariant-loop-i : goal.invariant-loop-i
invariant-loop-i l = all_steps (cells_in (drop (2 * (l.i - 1)) l.list)) ≡ all_steps (cells_in l.list)
