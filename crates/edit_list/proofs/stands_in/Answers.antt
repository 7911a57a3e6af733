-- What is tested of some pair, by the cells that the pairs are.
use mathlib.Core.Path.{ap, ◌∙◌}
use borrow.Author.Tests.{tests}
use Rattle.std.proofs.Common.{rules}
use Rattle.std.proofs.lemmas.Iterator.{YieldsList-from_slice}
use Rattle.std.proofs.lemmas.Iterator.Search.{any_from_yields_List}
use Rattle.grid.specs.Panel.{same_cell}
use Rattle.grid.specs.Bytes.{cell_of}
use Rattle.list.specs.List.{among}
use Rattle.edit_list.proofs.Among.{among_pairs}
use Rattle.edit_list.proofs.stands_in.Goals as goal

pub returns : goal.returns
returns c =
    any_from_yields_List (λ q. same_cell c.args.c (cell_of q)) _ _ c.any.result c.any.ensures.ran
    (YieldsList-from_slice c.pairs.result.now cc) (λ x b q k. search (rules, tests))
    ∙ among_pairs c.args.c c.pairs.result.now ∙ ap (among c.args.c) c.pairs.ensures.cells
