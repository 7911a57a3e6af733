-- No cell of the rows before y fits.
use Rattle.grid.specs.Reading.{row}
use Rattle.exit.specs.Exit.{fits}
use Rattle.exit.proofs.Reading.{NoneBefore}
use Rattle.exit.proofs.Search.in_panel.Given as goal

abbrev pub invariant-loop-y : goal.invariant-loop-y
invariant-loop-y l = NoneBefore (fits l.self.panel l.self.entry l.self.wanted) (row l.self.panel) l.y
