-- The row that is found has the terminals for its ends, and its cells as they are placed are a longest track.
use native.Mathlib.Omega.{arith}
use Rattle.table.proofs.Placed.{found_here, row_fits, drawn_here}
use Rattle.table.proofs.draw_small.Goals as goal

pub of-requires : goal.of-requires
of-requires c =
    let o = c.requires 4000 in
    let s = o.entry in
    let t = o.exit in
    ((omega (arith, s.right), omega (arith, s.bottom)), (omega (arith, t.right), omega (arith, t.bottom)))

pub write-requires-clause-row : goal.write-requires-clause-row
write-requires-clause-row c = (found_here c.requires c.of.ensures).row

pub write-requires-clause-room : goal.write-requires-clause-room
write-requires-clause-room c = row_fits c.requires c.of.ensures

pub returns : goal.returns
returns c = drawn_here c.requires c.of.ensures c.write.ensures
