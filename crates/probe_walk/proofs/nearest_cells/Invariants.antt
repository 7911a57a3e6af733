-- The first i places are filled.
use Prim.Native.Nat.{◌≤◌}
use mathlib.Core.Path.{◌≡◌}
use lib.ListN.{length}
use Rattle.grid.specs.Panel.{cell}
use Rattle.grid.specs.Bytes.{cells_in}
use Rattle.probe_walk.specs.Probes.{nearest_missed}
use Rattle.probe_walk.proofs.Sheets.{filled}
use Rattle.probe_walk.proofs.nearest_cells.Given as goal

abbrev pub invariant-loop-i : goal.invariant-loop-i
invariant-loop-i l = (l.i ≤ length (cells_in l.probes)) × (l.cells ≡ filled (cell 0 0) (nearest_missed (cells_in l.list)) (cells_in l.probes) l.i)
