-- What the functions that draw an order ask for. No promise of Draw rests on this file.
use Rattle.std.specs.Prelude.{ℕ, ◌*◌, ◌≤◌, ◌≢◌, List, length}
use Rattle.grid.specs.declared.Panel.{Panel}
use Rattle.grid.specs.declared.Cell.{Cell}
use Rattle.grid.specs.Panel.{OnPanel, GoodSides}
use Rattle.count.specs.Count.{count}

-- two different cells of a panel with good sides, and room for the count's cells
pub record ReadyOrder (p : Panel) (s t : Cell) (buf : List ℕ) : Type 0 where
  pub sides : GoodSides p
  pub entry : OnPanel p s
  pub exit : OnPanel p t
  pub differ : s ≢ t
  pub room : 2 * count p s t ≤ length buf
