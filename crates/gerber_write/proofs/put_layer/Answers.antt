-- The buffer is the one that was lent, and of scratch only the bytes for digits were.
use Rattle.std.proofs.Common.{rules, arith}
use Rattle.std.proofs.Math.Seq.{length-take-le}
use Rattle.std.proofs.lemmas.Slice.{drop-append-drop}
use Rattle.gerber_write.proofs.put_layer.Goals as goal

pub returns : goal.returns
returns c =
    let put = c.layer.ensures.put in
    let same = c.layer.ensures.same in
    let ten = length-take-le 10 c.args.scratch.now c.requires.digit_room_in_bounds in
    record { put = search rules; rest = drop-append-drop 10 c.args.scratch.now _ 10 (omega arith) (omega arith) }
