-- Each two successive ticks are in order exactly if all ticks rise.
use lib.Dec.{leb}
use Rattle.std.proofs.Common.{rules}
use Rattle.std.proofs.lemmas.Fn.{always_returns_same}
use Rattle.log_entries.specs.Log.{entry_of}
use Rattle.log_entries.proofs.Rising.{rises_answer}
use Rattle.log_entries.proofs.rises.Goals as goal

pub returns : goal.returns
returns c =
    rises_answer c.args.log.now _
    (c.is_sorted_by.ensures.cases (λ a b. leb (entry_of a).tick (entry_of b).tick) (always_returns_same _ _ _ (λ a r q k. search rules)))
