-- `Passing` holds at each turn.
use native.Mathlib.Omega.{arith}
use Rattle.log_entries.specs.Log.{entries_of}
use Rattle.log_entries.proofs.EntryBytes.{inside, is_inside, place_there, place_within, tick_there, length_entries_of}
use Rattle.logs.proofs.Passing.{stopped, passed_next}
use Rattle.logs.proofs.GoodLogs.pass.Goals as goal

pub returns-then-tick-entry : goal.returns-then-tick-entry
returns-then-tick-entry c =
    let burned = c.args.self.now.burned.now in
    stopped (entries_of burned) _ c.loop-i.invariant (omega (arith, length_entries_of burned)) (omega (arith, tick_there burned _ c.from-entry.ensures))

pub place_of-requires-clause-on : goal.place_of-requires-clause-on
place_of-requires-clause-on c = is_inside c.args.self.now.panel c.args.self.now.burned.now _ c.args.self.now.good.laser.on c.loop-i-test.true c.from-entry.ensures

pub bounds-scratch-place_of : goal.bounds-scratch-place_of
bounds-scratch-place_of c =
    place_within c.args.self.now.panel c.args.self.now.burned.now _ c.args.self.now.good.laser.on c.loop-i-test.true c.from-entry.ensures c.place_of.ensures
    (omega (arith, c.requires, c.loop-i.invariant.size))

pub loop-i-preserved : goal.loop-i-preserved
loop-i-preserved c =
    let p = c.args.self.now.panel in
    let burned = c.args.self.now.burned.now in
    passed_next (entries_of burned) _ c.loop-i.invariant (omega (arith, length_entries_of burned)) (omega (arith, tick_there burned _ c.from-entry.ensures))
    (inside p burned _ c.args.self.now.good.laser.on c.loop-i-test.true) c.args.self.now.good.laser.once c.requires
    (place_there p burned _ c.args.self.now.good.laser.on c.loop-i-test.true c.from-entry.ensures c.place_of.ensures) (omega arith)
