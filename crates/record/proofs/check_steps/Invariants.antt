-- The invariant: what is left of the walk decides whether all of it is on the panel, and the cell that it has come to is on the largest.
use Prim.Native.Nat.{ℕ}
use mathlib.Core.Path.{◌≡◌}
use mathlib.Core.Bool.{true}
use mathlib.Core.List.{List}
use lib.ListN.{drop}
use Rattle.grid.specs.declared.Panel.{Panel}
use Rattle.grid.specs.declared.Cell.{Cell}
use Rattle.grid.specs.Panel.{OnPanel}
use Rattle.list.specs.List.{all_on}
use Rattle.step_letters.specs.Letters.{largest_panel, all_known, walk_from, walk_on}
use Rattle.record.proofs.check_steps.Given as goal

pub record OnTheWay (p : Panel) (s : Cell) (letters : List ℕ) (at : Cell) (i : ℕ) : Type 0 where
  pub on : OnPanel largest_panel at
  pub left : all_known (drop i letters) ≡ true
  pub same : all_on p (walk_on at (drop i letters)) ≡ all_on p (walk_from s letters)

abbrev pub invariant-loop-letter : goal.invariant-loop-letter
invariant-loop-letter l = OnTheWay l.p l.initial.at l.letters l.at l.letter-index
