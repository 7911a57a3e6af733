-- Each part is put behind the one before; there is room for what is left behind each.
use Rattle.std.proofs.Common.{arith}
use Rattle.grid.specs.Bytes.{cells_in}
use Rattle.text.proofs.Puts.{room_first, room, puts_both}
use Rattle.printout.proofs.Texts.{answer_parts, counts_parts, line_parts}
use Rattle.printout.proofs.put_answer.Goals as goal

pub put_counts-b-requires-clause-squares_in_bounds : goal.put_counts-b-requires-clause-squares_in_bounds
put_counts-b-requires-clause-squares_in_bounds c =
    let first = answer_parts c.args.out.now c.args.class (cells_in c.args.list.now) (omega arith) c.requires.cells_value c.squares_of.ensures (omega arith) (omega arith) (omega arith) c.requires.text_room_in_bounds in
    room_first (counts_parts first c.put_bytes-a.ensures)

pub put_letters-c-requires-clause-list_in_bounds : goal.put_letters-c-requires-clause-list_in_bounds
put_letters-c-requires-clause-list_in_bounds c =
    let first = answer_parts c.args.out.now c.args.class (cells_in c.args.list.now) (omega arith) c.requires.cells_value c.squares_of.ensures (omega arith) (omega arith) (omega arith) c.requires.text_room_in_bounds in
    room_first (line_parts (counts_parts first c.put_bytes-a.ensures) c.put_counts-b.ensures)

pub put_byte-requires : goal.put_byte-requires
put_byte-requires c =
    let first = answer_parts c.args.out.now c.args.class (cells_in c.args.list.now) (omega arith) c.requires.cells_value c.squares_of.ensures (omega arith) (omega arith) (omega arith) c.requires.text_room_in_bounds in
    room (line_parts (counts_parts first c.put_bytes-a.ensures) c.put_counts-b.ensures) c.put_letters-c.ensures

pub returns : goal.returns
returns c =
    let first = answer_parts c.args.out.now c.args.class (cells_in c.args.list.now) (omega arith) c.requires.cells_value c.squares_of.ensures (omega arith) (omega arith) (omega arith) c.requires.text_room_in_bounds in
    let second = counts_parts first c.put_bytes-a.ensures in
    puts_both first c.put_bytes-a.ensures
    (puts_both second c.put_counts-b.ensures
    (puts_both (line_parts second c.put_counts-b.ensures) c.put_letters-c.ensures c.put_byte.ensures))
