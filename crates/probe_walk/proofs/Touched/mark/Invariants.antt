-- The first i probes are marked.
use mathlib.Core.List.{map}
use Rattle.grid.specs.Bytes.{cell_of}
use Rattle.probe_walk.proofs.Marks.{Marking}
use Rattle.probe_walk.proofs.Touched.mark.Given as goal

abbrev pub invariant-loop-i : goal.invariant-loop-i
invariant-loop-i l = Marking l.self.panel (map cell_of l.self.probes.now) l.initial.scratch l.scratch l.different l.i
