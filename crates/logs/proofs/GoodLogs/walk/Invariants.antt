-- `Walking` holds at each turn.
use Rattle.log_entries.specs.Log.{entries_of}
use Rattle.logs.proofs.Walks.{Walking}
use Rattle.logs.proofs.GoodLogs.walk.Given as goal

abbrev pub invariant-loop-bytes : goal.invariant-loop-bytes
invariant-loop-bytes l =
    Walking l.self.panel (entries_of l.self.burned.now) (entries_of l.self.seen.now) l.initial.scratch l.scratch l.both l.earlier l.passed l.bytes-index
