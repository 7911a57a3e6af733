-- The invariant: the cells written so far and those ahead are the whole list.
use Rattle.std.proofs.Common.{◌*◌}
use Rattle.gerber_read.specs.Read.{found_list, led}
use Rattle.gerber_read.proofs.Found.{Written}
use Rattle.gerber_read.proofs.layer.Layer.write_cells.Given as goal

abbrev pub invariant-loop-i : goal.invariant-loop-i
invariant-loop-i l =
    Written l.self.panel l.self.file.now (found_list (led l.self.panel l.self.file.now l.fn.start.first)) l.fn.list 0 l.list l.t (2 * l.i)
