-- Which cells are corners.
use mathlib.Core.Path.{◌≡◌}
use mathlib.Core.Bool.{true, false, and-false}
use mathlib.Core.Logic.{◌≢◌}
use borrow.Author.Tests.{eq-eqb, ne_eqb}
use Rattle.grid.specs.declared.Cell.{Cell}
use Rattle.squares.specs.Squares.{corner_between}

module _ (a c : Cell) where
  pub in_column : a.x ≡ c.x → corner_between a c ≡ false
  unfolding corner_between
  in_column e = simp (eq-eqb a.x c.x e)

  pub in_row : a.y ≡ c.y → corner_between a c ≡ false
  unfolding corner_between
  in_row e = simp (eq-eqb a.y c.y e, and-false)

  pub bent : a.x ≢ c.x → a.y ≢ c.y → corner_between a c ≡ true
  unfolding corner_between
  bent d e = simp (ne_eqb a.x c.x d, ne_eqb a.y c.y e)
