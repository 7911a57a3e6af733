-- Each turn writes the next cell of the row, as it is placed.
use mathlib.Core.Path.{ap}
use native.Mathlib.Omega.{arith}
use Rattle.grid.specs.declared.Cell.{Cell}
use Rattle.line.proofs.Written.{more}
use Rattle.table.proofs.Rows.{row_most}
use Rattle.table.proofs.Placed.{in_row, placed_small, placed_at}
use Rattle.table.proofs.Placing.write.Goals as goal

pub put_cell-requires : goal.put_cell-requires
put_cell-requires c =
    let s = c.args.self in
    let n = row_most s.row c.requires.row in
    let j = in_row s.back c.size-n.result c.loop-i.i c.position.ensures c.loop-i-test.true (omega arith) in
    let h = placed_small s c.cell.ensures c.place.ensures c.requires.row j in
    (omega arith, omega arith, omega (arith, c.loop-i.invariant.long))

pub loop-i-preserved : goal.loop-i-preserved
loop-i-preserved c =
    let e = placed_at c.args.self c.cell.ensures c.place.ensures c.loop-i.i c.position.ensures c.size-n.ensures in
    rw c.put_cell.ensures
    (more _ _ _ c.loop-i.buf c.loop-i.i _ _ c.loop-i.invariant (omega arith) c.loop-i-test.true
    (ap (λ (k : Cell). k.x) e) (ap (λ (k : Cell). k.y) e))
