-- Rows, or else columns: which lines of a rectangle are meant, and a cell as they have it.
use Rattle.std.specs.Prelude.{ℕ}
use Rattle.grid.specs.declared.Cell.{Cell}
use Rattle.grid.specs.Panel.{turned_cell}
use Rattle.line.specs.declared.Along.{Along}
use Rattle.line.specs.declared.Along.TheVariants.{Rows, Columns}

-- a cell's place in its line as x, and its line as y
abbrev pub seen : Along → Cell → Cell
seen Rows c = c
seen Columns c = turned_cell c

abbrev pub other : Along → Along
other Rows = Columns
other Columns = Rows

-- how much more in number the next cell of a line is
abbrev pub unit : Along → ℕ
unit Rows = 1
unit Columns = 256
