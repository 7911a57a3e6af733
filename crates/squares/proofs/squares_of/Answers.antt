-- 100 for each cell, less 44 for each corner; two bytes a cell, and no more corners than cells.
use Rattle.std.proofs.Common.{arith}
use Rattle.grid.specs.Bytes.{cells_in}
use Rattle.list.proofs.Cells.{length_cells}
use Rattle.squares.proofs.Counted.{squares_counted, corners_few}
use Rattle.squares.proofs.squares_of.Goals as goal

pub overflow_mul-result : goal.overflow_mul-result
overflow_mul-result c = omega (arith, corners_few (cells_in c.args.list.now), length_cells c.args.list.now)

pub overflow_sub-result : goal.overflow_sub-result
overflow_sub-result c = omega (arith, corners_few (cells_in c.args.list.now), length_cells c.args.list.now)

pub overflow_add-result : goal.overflow_add-result
overflow_add-result c = omega (arith, corners_few (cells_in c.args.list.now), length_cells c.args.list.now)

pub returns : goal.returns
returns c =
    let b = c.args.list.now in
    omega (arith, corners_few (cells_in b), squares_counted (cells_in b), length_cells b)
