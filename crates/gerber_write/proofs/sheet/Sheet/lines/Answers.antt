-- One cell has a line as long as the flash; two cells or more have the move, and the draws behind it.
use Rattle.std.proofs.Common.{refl, sym, ap, ◌∙◌, ◌++◌, length}
use Rattle.gerber.specs.Layer.{flash, end_line}
use Rattle.gerber_write.proofs.Lines.{as_long, lines_one, lines_more}
use Rattle.gerber_write.proofs.Takes.{left_all, left_is, left_next, room}
use Rattle.gerber_write.proofs.sheet.Sheet.lines.Goals as goal

pub last-requires-clause-room : goal.last-requires-clause-room
last-requires-clause-room g c =
    let spot = lines_one c.args.self.panel c.args.cells.now c.in-len1.len_at_least c.in-len1.len_below c.from.ensures in
    let long = as_long c.args.self.panel c.from.result (flash ++ end_line) in
    g.met.S.Sink.laws.alike _ _ _ (ap length (sym spot) ∙ long _ refl) c.requires.room

pub returns-in-len1 : goal.returns-in-len1
returns-in-len1 g c =
    let spot = lines_one c.args.self.panel c.args.cells.now c.in-len1.len_at_least c.in-len1.len_below c.from.ensures in
    (left_is {Fits = g.S.Sink.Fits} {Takes = g.S.Sink.Takes} (left_all c.requires.room) (sym spot)).then c.last.ensures

pub line-requires-clause-room : goal.line-requires-clause-room
line-requires-clause-room g c =
    let parts = lines_more c.args.self.panel c.args.cells.now c.in-len2-up.len_at_least c.from-first.ensures refl in
    room g.met.S.Sink.laws.parts (left_all c.requires.room) _ _ parts

pub draws-requires-clause-room : goal.draws-requires-clause-room
draws-requires-clause-room g c =
    let parts = lines_more c.args.self.panel c.args.cells.now c.in-len2-up.len_at_least c.from-first.ensures c.from-in-len2-up.ensures in
    (left_next g.met.S.Sink.laws.parts (left_all c.requires.room) _ _ parts c.line.ensures).fits

pub returns-in-len2-up : goal.returns-in-len2-up
returns-in-len2-up g c =
    let parts = lines_more c.args.self.panel c.args.cells.now c.in-len2-up.len_at_least c.from-first.ensures c.from-in-len2-up.ensures in
    (left_next g.met.S.Sink.laws.parts (left_all c.requires.room) _ _ parts c.line.ensures).then c.draws.ensures
