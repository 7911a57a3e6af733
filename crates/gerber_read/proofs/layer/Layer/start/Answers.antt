-- The cell of a flash, if the end is behind it; else the cells that a move leads to, if they are two or more.
use Rattle.std.proofs.Common.{◌∙◌, sym, ap}
use Rattle.gerber_trace.specs.Trace.{aim_of}
use Rattle.gerber_read.proofs.Layers.{by_spot, by_walk, walk_on}
use Rattle.gerber_read.proofs.layer.Layer.start.Goals as goal

pub returns-in-Some : goal.returns-in-Some
returns-in-Some c =
    let file = c.args.self.file.now in
    by_spot c.args.self.panel file c.in-Some.first c.args.self.good (sym c.first_at.ensures ∙ ap (aim_of file) c.in-Some.is) c.is_end.result
    c.is_end.ensures c.then_some.ensures

pub count_cells-requires : goal.count_cells-requires
count_cells-requires c =
    let file = c.args.self.file.now in
    walk_on c.args.self.panel file c.in_ok-first.first (sym c.first_at.ensures ∙ ap (aim_of file) c.in_default.is)
    (sym c.first_at-2.ensures ∙ ap (aim_of file) c.in_ok-first.was)

pub returns : goal.returns
returns c =
    let file = c.args.self.file.now in
    by_walk c.args.self.panel file c.in_ok-first.first (sym c.first_at.ensures ∙ ap (aim_of file) c.in_default.is)
    (sym c.first_at-2.ensures ∙ ap (aim_of file) c.in_ok-first.was) (sym c.count_cells.ensures ∙ c.in_ok-count.was) c.then_some-2.ensures
