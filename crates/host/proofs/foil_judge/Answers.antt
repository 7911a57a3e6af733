-- The two parts are those of Judge's answer, and fit; scratch is what Judge leaves.
use Rattle.host.proofs.Answers.{judge_fits, judge_packed}
use Rattle.host.proofs.foil_judge.Goals as goal

pub pack_cells-requires : goal.pack_cells-requires
pack_cells-requires c = judge_fits c.judge.ensures

pub returns : goal.returns
returns c =
    let call = c in
    rw call.order_of-o.ensures at (judge_packed call.judge.ensures c.pack_cells.ensures)
