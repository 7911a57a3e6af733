-- `Passing` holds at each turn.
use Rattle.log_entries.specs.Log.{entries_of}
use Rattle.logs.proofs.Passing.{Passing}
use Rattle.logs.proofs.GoodLogs.pass.Given as goal

abbrev pub invariant-loop-i : goal.invariant-loop-i
invariant-loop-i l = Passing l.self.panel (entries_of l.self.burned.now) l.passed l.tick l.initial.scratch l.scratch l.i
