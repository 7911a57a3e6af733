-- The first i places are filled.
use Prim.Native.Nat.{◌≤◌}
use mathlib.Core.List.{map}
use mathlib.Core.Path.{◌≡◌}
use lib.ListN.{length}
use Rattle.grid.specs.Bytes.{cell_of}
use Rattle.probe_walk.proofs.Sheets.{filled, note}
use Rattle.probe_walk.proofs.Touched.noted.Given as goal

abbrev pub invariant-loop-i : goal.invariant-loop-i
invariant-loop-i l =
    (l.i ≤ length (map cell_of l.self.probes.now))
    × (l.positions ≡ filled 0 (note (map cell_of l.self.probes.now) l.found) (map cell_of l.self.probes.now) l.i)
