-- No cell of the row before x fits.
use Rattle.std.proofs.Common.{[], ◌∷◌}
use Rattle.grid.specs.Panel.{cell}
use Rattle.exit.specs.Exit.{fits}
use Rattle.exit.proofs.Reading.{NoneBefore}
use Rattle.exit.proofs.Search.in_row.Given as goal

abbrev pub invariant-loop-x : goal.invariant-loop-x
invariant-loop-x l = NoneBefore (fits l.self.panel l.self.entry l.self.wanted) (λ x. cell x l.y ∷ []) l.x
