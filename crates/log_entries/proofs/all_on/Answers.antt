-- What is tested of the bytes of each entry, by the entries' cells.
use mathlib.Core.Path.{◌∙◌}
use borrow.Author.Tests.{tests}
use Rattle.std.proofs.Common.{rules}
use Rattle.std.proofs.lemmas.Iterator.{YieldsList-from_slice}
use Rattle.std.proofs.lemmas.Iterator.Search.{all_from_yields_List}
use Rattle.grid.specs.Panel.{on_panel}
use Rattle.log_entries.specs.Log.{entry_of}
use Rattle.log_entries.proofs.EntryBytes.{all_on_entries}
use Rattle.log_entries.proofs.all_on.Goals as goal

pub returns : goal.returns
returns c =
    all_from_yields_List (λ b. on_panel c.args.p (entry_of b).cell) _ _ c.all.result c.all.ensures.ran
    (YieldsList-from_slice c.args.log.now cc) (λ x b q k. search (rules, tests))
    ∙ all_on_entries c.args.p c.args.log.now
