-- Two numbers, and two behind them: the steps are one fewer than the cells.
use Rattle.std.proofs.Common.{arith}
use Rattle.text.proofs.Puts.{puts_both}
use Rattle.printout.proofs.Texts.{counts_and}
use Rattle.printout.proofs.put_counts.Goals as goal

pub returns : goal.returns
returns c =
    let a = c.args in
    puts_both (record { joined = counts_and a.class a.cells.0 a.squares (omega arith); fits = c.requires.squares_in_bounds })
    c.put_two-next.ensures
    c.put_two.ensures
