-- A draw is taken where the direction changes; where it stays the draws that are left are the same; behind the loop the last is left.
use Rattle.std.proofs.Common.{sym, ap, ◌∙◌, arith}
use Rattle.grid.specs.Panel.{on_panel}
use Rattle.grid.proofs.Facts.{and_right}
use Rattle.list.specs.List.{all_on}
use Rattle.gerber_write.proofs.Lines.{walk_turn, walk_stay, cells_from, draws_end}
use Rattle.gerber_write.proofs.Takes.{left_next, left_is, room}
use Rattle.gerber_write.proofs.sheet.Sheet.draws.Goals as goal
use Rattle.gerber_write.proofs.sheet.Sheet.draws.Goals.{then-not-is_straight, else-not-is_straight}

pub line-requires-clause-room : goal.line-requires-clause-room
line-requires-clause-room g c =
    let l = c.loop-pair in
    let next = cells_from c.args.rest.now l.pair-index c.loop-pair-test.true c.from-next.ensures in
    room g.met.S.Sink.laws.parts l.invariant.1 _ _ (walk_turn _ _ _ next (sym c.is_straight.ensures ∙ c.if-not-is_straight.true))

pub loop-pair-preserved : goal.loop-pair-preserved
loop-pair-preserved g c =
    let l = c.loop-pair in
    let next = cells_from c.args.rest.now c.loop-pair.pair-index c.loop-pair-test.true c.from-next.ensures in
    let on = sym (ap (all_on c.args.self.panel) next) ∙ and_right (on_panel c.args.self.panel l.to) _ l.invariant.0 in
    elim c.if-not-is_straight.branch [
      | then-not-is_straight w ↦ rw (w.to-is, w.from-is, w.sink-is) (
        on,
        left_next g.met.S.Sink.laws.parts l.invariant.1 _ _ (walk_turn _ _ _ next (sym c.is_straight.ensures ∙ w.if-not-is_straight.true)) w.line.ensures,
      )
      | else-not-is_straight w ↦ rw (w.to-is, w.from-is, w.sink-is) (
        on,
        left_is l.invariant.1 (walk_stay _ _ _ next (sym c.is_straight.ensures ∙ w.if-not-is_straight.false)),
      )
    ]

-- behind the loop no cell is left
pub last-requires-clause-room : goal.last-requires-clause-room
last-requires-clause-room g c =
    let l = c.loop-pair in
    (left_is l.invariant.1 (draws_end c.args.self.panel l.from l.to c.args.rest.now l.pair-index (omega (arith, c.loop-pair-test.false)))).fits
