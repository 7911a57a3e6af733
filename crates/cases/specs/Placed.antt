-- What the code of class and count asks of its input.
use Rattle.grid.specs.declared.Panel.{Panel}
use Rattle.grid.specs.declared.Cell.{Cell}
use Rattle.grid.specs.Panel.{GoodSides, OnPanel}

-- two cells of a panel with good sides
pub record Placed (p : Panel) (s t : Cell) : Type 0 where
  pub sides : GoodSides p
  pub entry : OnPanel p s
  pub exit : OnPanel p t
