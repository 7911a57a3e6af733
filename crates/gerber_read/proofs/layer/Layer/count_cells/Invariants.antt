-- The invariant: the cells counted and those ahead are all cells.
use Rattle.std.proofs.Common.{◌+◌, ◌-◌, ◌≡◌}
use Rattle.grid.specs.Panel.{OnPanel, area}
use Rattle.gerber_read.proofs.Found.{cells_within, size_on}
use Rattle.gerber_read.proofs.layer.Layer.count_cells.Given as goal

abbrev pub invariant-loop-behind : goal.invariant-loop-behind
invariant-loop-behind l = OnPanel l.self.panel l.t.at
    × (size_on (l.behind + 1) (cells_within l.self.panel (area l.self.panel - l.behind) l.self.file.now l.t)
    ≡ size_on 1 (cells_within l.self.panel (area l.self.panel) l.self.file.now l.initial.t))
