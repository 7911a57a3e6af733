-- `Marking` holds at each turn.
use native.Mathlib.Omega.{arith}
use Rattle.log_entries.specs.Log.{entries_of, cells_of}
use Rattle.log_entries.proofs.EntryBytes.{inside, is_inside, place_there, place_within, length_entries_of, length_cells_of}
use Rattle.log_entries.proofs.Marks.{met, marked_next}
use Rattle.log_entries.proofs.mark_once.Goals as goal

pub place_of-requires-clause-on : goal.place_of-requires-clause-on
place_of-requires-clause-on c = is_inside c.args.p c.args.log.now _ c.requires.on c.loop-bytes-test.true c.from.ensures

pub bounds-scratch-place_of : goal.bounds-scratch-place_of
bounds-scratch-place_of c =
    place_within c.args.p c.args.log.now _ c.requires.on c.loop-bytes-test.true c.from.ensures c.place_of.ensures
    (omega (arith, c.requires.ready.room, c.loop-bytes.invariant.changed.size))

pub returns-then-mark-held-clause-told : goal.returns-then-mark-held-clause-told
returns-then-mark-held-clause-told c =
    let log = c.args.log.now in
    let there = c.loop-bytes-test.true in
    let l = entries_of log in
    met (cells_of l) _ c.loop-bytes.invariant c.requires.ready (omega (arith, length_cells_of l, length_entries_of log)) (inside c.args.p log _ c.requires.on there)
    (place_there c.args.p log _ c.requires.on there c.from.ensures c.place_of.ensures) (omega arith)

pub loop-bytes-preserved : goal.loop-bytes-preserved
loop-bytes-preserved c =
    let log = c.args.log.now in
    let there = c.loop-bytes-test.true in
    let l = entries_of log in
    marked_next (cells_of l) _ c.loop-bytes.invariant c.requires.ready (omega (arith, length_cells_of l, length_entries_of log)) (inside c.args.p log _ c.requires.on there)
    (place_there c.args.p log _ c.requires.on there c.from.ensures c.place_of.ensures) (omega arith)
