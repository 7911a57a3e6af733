-- What making an edit asks of a list: that it can be made on some panel, so that it is there, and its cells go into bytes.
use Rattle.std.specs.Prelude.{◌≡◌, true, List}
use Rattle.grid.specs.declared.Panel.{Panel}
use Rattle.grid.specs.declared.Cell.{Cell}
use Rattle.grid.specs.Panel.{good_sides}
use Rattle.detour.specs.declared.Edit.{Edit}
use Rattle.detour.specs.Detour.{can_edit}

-- there is a panel on which the edit can be made
pub record Possible (e : Edit) (l : List Cell) : Type 0 where
  pub panel : Panel
  pub sides : good_sides panel ≡ true
  pub can : can_edit panel e l ≡ true
