-- `Marking` holds at each turn.
use Rattle.log_entries.specs.Log.{entries_of, cells_of}
use Rattle.log_entries.proofs.Marks.{Marking}
use Rattle.log_entries.proofs.mark_once.Given as goal

abbrev pub invariant-loop-bytes : goal.invariant-loop-bytes
invariant-loop-bytes l = Marking l.p l.mark (cells_of (entries_of l.log)) l.initial.scratch l.scratch l.bytes-index
