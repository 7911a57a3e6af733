-- The invariant: the draws behind the cell come from are left to be taken, and their cells are on the panel.
use Rattle.std.proofs.Common.{◌≡◌, true, ◌∷◌, map, drop}
use Rattle.grid.specs.Bytes.{cell_of}
use Rattle.list.specs.List.{all_on}
use Rattle.gerber.specs.Layer.{turns_from, draw_lines}
use Rattle.gerber_write.proofs.Takes.{Left}
use Rattle.gerber_write.proofs.sheet.Sheet.draws.Given as goal

abbrev pub invariant-loop-pair : goal.invariant-loop-pair
invariant-loop-pair g l =
    (all_on l.self.panel (l.to ∷ map cell_of (drop l.pair-index l.rest)) ≡ true)
    × Left g.S.Sink.Fits g.S.Sink.Takes l.fn.sink (draw_lines l.self.panel (turns_from l.fn.first l.fn.second (map cell_of l.rest)))
    l.sink (draw_lines l.self.panel (turns_from l.from l.to (map cell_of (drop l.pair-index l.rest))))
