-- `Walking` holds at each turn.
use Prim.Native.Nat.{ℕ}
use native.Mathlib.Omega.{arith}
use mathlib.Core.Path.{◌≡◌, refl, subst}
use mathlib.Core.List.{List, []}
use lib.ListN.{get_or}
use Rattle.grid.specs.declared.Panel.{Panel}
use Rattle.log_entries.specs.declared.Entry.{Entry}
use Rattle.log_entries.specs.Log.{entry_of, entries_of, nth_entry}
use Rattle.log_entries.proofs.EntryBytes.{is_inside, place_there, place_within, tick_there, length_entries_of}
use Rattle.logs.specs.Walk.{Passes}
use Rattle.logs.proofs.Walks.{erased_now, walked_next, most}
use Rattle.logs.proofs.GoodLogs.walk.Goals as goal

pub place_of-requires-clause-on : goal.place_of-requires-clause-on
place_of-requires-clause-on c = is_inside c.args.self.now.panel c.args.self.now.seen.now _ c.args.self.now.good.camera.on c.loop-bytes-test.true c.from-entry.ensures

-- the laser's entries are passed up to the tick of the bytes with the number i
up_to : {p : Panel} {l : List Entry} (s : List (List ℕ)) (i : ℕ) {e : Entry} {passed r : ℕ} {old new : List ℕ} → e ≡ entry_of (get_or s i [])
    → Passes p l passed e.tick old r new → Passes p l passed (nth_entry (entries_of s) i).tick old r new
up_to {p} {l} s i {e} {passed} {r} {old} {new} f q = subst (λ (t : ℕ). Passes p l passed t old r new) (tick_there s i f) q

pub bounds-scratch-place_of : goal.bounds-scratch-place_of
bounds-scratch-place_of c =
    place_within c.args.self.now.panel c.args.self.now.seen.now _ c.args.self.now.good.camera.on c.loop-bytes-test.true c.from-entry.ensures c.place_of.ensures
    (omega (arith, c.requires.room, (erased_now _ _ _ c.loop-bytes.invariant c.pass-passed.ensures).size))

pub overflow_add-both : goal.overflow_add-both
overflow_add-both c =
    let p = c.args.self.now.panel in
    let b = entries_of c.args.self.now.burned.now in
    let seen = c.args.self.now.seen.now in
    let there = c.loop-bytes-test.true in
    let place = place_there p seen _ c.args.self.now.good.camera.on there c.from-entry.ensures c.place_of.ensures in
    let walked =
    walked_next b (entries_of seen) c.args.self.now.good _ c.loop-bytes.invariant (omega (arith, length_entries_of seen))
    (up_to seen _ c.from-entry.ensures c.pass-passed.ensures) c.requires place c.from-both.ensures refl in
    omega (arith, most b (entries_of seen) c.args.self.now.good _ walked)

pub overflow_add-earlier : goal.overflow_add-earlier
overflow_add-earlier c =
    let p = c.args.self.now.panel in
    let b = entries_of c.args.self.now.burned.now in
    let seen = c.args.self.now.seen.now in
    let there = c.loop-bytes-test.true in
    let place = place_there p seen _ c.args.self.now.good.camera.on there c.from-entry.ensures c.place_of.ensures in
    let walked =
    walked_next b (entries_of seen) c.args.self.now.good _ c.loop-bytes.invariant (omega (arith, length_entries_of seen))
    (up_to seen _ c.from-entry.ensures c.pass-passed.ensures) c.requires place c.from-both.ensures c.from-earlier.ensures in
    omega (arith, most b (entries_of seen) c.args.self.now.good _ walked)

pub loop-bytes-preserved : goal.loop-bytes-preserved
loop-bytes-preserved c =
    let p = c.args.self.now.panel in
    let b = entries_of c.args.self.now.burned.now in
    let seen = c.args.self.now.seen.now in
    let there = c.loop-bytes-test.true in
    walked_next b (entries_of seen) c.args.self.now.good _ c.loop-bytes.invariant (omega (arith, length_entries_of seen))
    (up_to seen _ c.from-entry.ensures c.pass-passed.ensures) c.requires
    (place_there p seen _ c.args.self.now.good.camera.on there c.from-entry.ensures c.place_of.ensures) c.from-both.ensures c.from-earlier.ensures
