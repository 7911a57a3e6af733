-- The chunks of six bytes are the log's entries.
use mathlib.Core.Path.{refl, ap, ◌∙◌}
use Rattle.log_entries.specs.Log.{entries_of}
use Rattle.log_entries.proofs.EntryBytes.{entries_of_chunks}
use Rattle.log_entries.proofs.entries.Goals as goal

pub returns : goal.returns
returns c = ap entries_of c.as_chunks.ensures.front ∙ entries_of_chunks _ c.args.log.now refl
