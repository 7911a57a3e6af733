use Rattle.std.proofs.Common.{rules}
use Rattle.list.proofs.Paired.{cells_of_pairs}
use Rattle.list.proofs.pairs.Goals as goal

pub returns-clause-cells : goal.returns-clause-cells
returns-clause-cells c = search (rules, cells_of_pairs)
