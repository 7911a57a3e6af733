-- `Walking` holds at each turn, of the cells passed, which are those counted; and the marks stay.
use mathlib.Core.Path.{◌≡◌}
use mathlib.Core.List.{map}
use Rattle.grid.specs.Bytes.{cell_of, cells_in}
use Rattle.probe_walk.proofs.Walks.{Walking}
use Rattle.probe_walk.proofs.Touched.find.Given as goal

abbrev pub invariant-loop-pair : goal.invariant-loop-pair
invariant-loop-pair l = Walking (map cell_of l.self.probes.now) (cells_in l.list) l.found l.left l.pair-index × (l.read ≡ l.pair-index)
