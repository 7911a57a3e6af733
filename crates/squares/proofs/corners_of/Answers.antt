-- This turn's cell is counted if it is a corner.
use Rattle.std.proofs.Common.{ℕ, ◌∙◌, ap, arith}
use mathlib.Core.Path.{ap₂}
use mathlib.Core.Bool.{Bool, cond}
use Rattle.grid.specs.Bytes.{cells_in}
use Rattle.list.proofs.Cells.{length_cells}
use Rattle.squares.specs.Squares.{corner_between}
use Rattle.squares.proofs.Counted.{corners_few}
use Rattle.squares.proofs.Turns.{corner_end_at, turn_counted_at}
use Rattle.squares.proofs.corners_of.Goals as goal
use Rattle.squares.proofs.corners_of.Goals.{then-corner_between, else-corner_between}

pub overflow_add-corners : goal.overflow_add-corners
overflow_add-corners c =
    let b = c.args.list.now in
    omega (arith, corners_few (cells_in b), length_cells b, c.loop-i.invariant)

pub loop-i-preserved : goal.loop-i-preserved
loop-i-preserved c =
    let is = c.corner_between.ensures ∙ ap₂ corner_between c.cell_at.ensures c.cell_at-in-loop-i.ensures in
    let counted = turn_counted_at c.args.list.now c.loop-i.i c.corner_between.result (omega arith) (omega arith) is in
    elim c.if-corner_between.branch [
      | then-corner_between w ↦ omega (arith, counted, ap {B = ℕ} (λ (t : Bool). cond t 1 0) w.if-corner_between.true, w.corners-is)
      | else-corner_between w ↦ omega (arith, counted, ap {B = ℕ} (λ (t : Bool). cond t 1 0) w.if-corner_between.false, w.corners-is)
    ]

pub returns : goal.returns
returns c = omega (arith, corner_end_at c.args.list.now c.loop-i.i (omega arith), c.loop-i.invariant)
