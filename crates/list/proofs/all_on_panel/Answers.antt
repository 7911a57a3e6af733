-- What is tested of every pair, by the cells that the pairs are.
use mathlib.Core.Path.{ap, ◌∙◌}
use borrow.Author.Tests.{tests}
use Rattle.std.proofs.Common.{rules}
use Rattle.std.proofs.lemmas.Iterator.{YieldsList-from_slice}
use Rattle.std.proofs.lemmas.Iterator.Search.{all_from_yields_List}
use Rattle.grid.specs.Panel.{on_panel}
use Rattle.grid.specs.Bytes.{cell_of}
use Rattle.list.specs.List.{all_on}
use Rattle.list.proofs.Paired.{all_on_pairs}
use Rattle.list.proofs.all_on_panel.Goals as goal

pub returns : goal.returns
returns c =
    all_from_yields_List (λ q. on_panel c.args.p (cell_of q)) _ _ c.all.result c.all.ensures.ran
    (YieldsList-from_slice c.pairs.result.now cc) (λ x b q k. search (rules, tests))
    ∙ all_on_pairs c.args.p c.pairs.result.now ∙ ap (all_on c.args.p) c.pairs.ensures.cells
