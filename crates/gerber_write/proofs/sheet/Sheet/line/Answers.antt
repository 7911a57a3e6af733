-- X, the two numbers with their bytes behind, and the operation are taken one behind another.
use Rattle.std.proofs.Common.{refl}
use Rattle.gerber_write.proofs.Lines.{field_is}
use Rattle.gerber_write.proofs.Takes.{left_all, left_next, room}
use Rattle.gerber_write.proofs.sheet.Sheet.line.Goals as goal

pub text-requires : goal.text-requires
text-requires g c = room g.met.S.Sink.laws.parts (left_all c.requires.room) _ _ refl

pub number-requires : goal.number-requires
number-requires g c =
    let laws = g.met.S.Sink.laws.parts in
    room laws (left_next laws (left_all c.requires.room) _ _ refl c.text.ensures) _ _ (field_is _ _ c.plot_x.ensures)

pub number-requires-2 : goal.number-requires-2
number-requires-2 g c =
    let laws = g.met.S.Sink.laws.parts in
    let x = left_next laws (left_all c.requires.room) _ _ refl c.text.ensures in
    room laws (left_next laws x _ _ (field_is _ _ c.plot_x.ensures) c.number.ensures) _ _ (field_is _ _ c.plot_y.ensures)

pub text-requires-2 : goal.text-requires-2
text-requires-2 g c =
    let laws = g.met.S.Sink.laws.parts in
    let x = left_next laws (left_all c.requires.room) _ _ refl c.text.ensures in
    let y = left_next laws x _ _ (field_is _ _ c.plot_x.ensures) c.number.ensures in
    room laws (left_next laws y _ _ (field_is _ _ c.plot_y.ensures) c.number-2.ensures) _ _ refl

pub returns : goal.returns
returns g c =
    let laws = g.met.S.Sink.laws.parts in
    let x = left_next laws (left_all c.requires.room) _ _ refl c.text.ensures in
    let y = left_next laws x _ _ (field_is _ _ c.plot_x.ensures) c.number.ensures in
    let d = left_next laws y _ _ (field_is _ _ c.plot_y.ensures) c.number-2.ensures in
    (left_next laws d _ _ refl c.text-2.ensures).then (laws.none _)
