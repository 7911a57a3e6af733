-- The nearest of the cells so far, with those to come, is that of the whole list.
use Rattle.grid.specs.Bytes.{cells_in}
use Rattle.probe_walk.proofs.Nearest.{Nearer}
use Rattle.probe_walk.proofs.nearest_to.Given as goal

abbrev pub invariant-loop-pair : goal.invariant-loop-pair
invariant-loop-pair l = Nearer l.c (cells_in l.list) l.nearest l.least l.pair-index
