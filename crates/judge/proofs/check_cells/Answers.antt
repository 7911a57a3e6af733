-- Scratch is clean once it is cleared, and what the walk keeps decides (`decided`).
use Rattle.scratch.proofs.Clean.{clean}
use Rattle.judge.proofs.Walks.{decided}
use Rattle.judge.proofs.check_cells.Goals as goal

pub walk-requires-clause-clean : goal.walk-requires-clause-clean
walk-requires-clause-clean c = clean c.args.o.panel _ c.requires.room c.clear.ensures

pub returns-clause-told : goal.returns-clause-told
returns-clause-told c = decided _ _ _ _ c.walk.ensures c.verdict-told.ensures
