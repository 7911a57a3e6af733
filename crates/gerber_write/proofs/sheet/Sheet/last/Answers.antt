-- The line, and the last line behind it.
use Rattle.gerber_write.proofs.Lines.{line_and}
use Rattle.gerber_write.proofs.Takes.{left_all, left_next, room}
use Rattle.gerber_write.proofs.sheet.Sheet.last.Goals as goal

pub line-requires-clause-room : goal.line-requires-clause-room
line-requires-clause-room g c = room g.met.S.Sink.laws.parts (left_all c.requires.room) _ _ (line_and _ _ _ _)

pub text-requires : goal.text-requires
text-requires g c = (left_next g.met.S.Sink.laws.parts (left_all c.requires.room) _ _ (line_and _ _ _ _) c.line.ensures).fits

pub returns : goal.returns
returns g c = (left_next g.met.S.Sink.laws.parts (left_all c.requires.room) _ _ (line_and _ _ _ _) c.line.ensures).then c.text.ensures
