-- How a plan is moved, as a value of the code: the panel turned, or mirrored so that x, or y, becomes a number less it.
use Rattle.std.specs.Prelude.{◌-◌}
use Rattle.grid.specs.declared.Cell.{Cell}
use Rattle.grid.specs.Panel.{turned_cell}
use Rattle.shapes.specs.declared.motions.Motion.{Motion}
use Rattle.shapes.specs.declared.motions.Motion.TheVariants.{Turn, MirrorX, MirrorY}

-- a cell moved
abbrev pub moved_cell : Motion → Cell → Cell
moved_cell Turn c = turned_cell c
moved_cell (MirrorX k) c = record { x = k - c.x; y = c.y }
moved_cell (MirrorY k) c = record { x = c.x; y = k - c.y }
