-- The tests of the sizes, then those of the cells; a count that is given is at most 16,384, so that it fits.
use Rattle.std.specs.Prelude.{Ok}
use native.Mathlib.Omega.{arith}
use mathlib.Core.Path.{◌≡◌, sym, ◌∙◌}
use lib.ListN.{length}
use Rattle.grid.specs.Bytes.{cells_in}
use Rattle.grid.proofs.Tests.{after_good}
use Rattle.list.proofs.Cells.{length_cells}
use Rattle.judge.specs.Judge.{sizes_check, cells_check}
use Rattle.judge.proofs.Checks.{count_small, all_good}
use Rattle.judge.proofs.judge.Goals as goal

pub overflow_cast-result : goal.overflow_cast-result
overflow_cast-result c =
    let a = c.args in
    let o = a.o in
    let sizes : sizes_check o.panel o.entry o.exit (length a.list.now) (length a.scratch.now) ≡ Ok tt =
    sym c.check_sizes.ensures ∙ c.in_ok-check_sizes.was in
    let cells : Ok tt ≡ cells_check o.panel o.entry o.exit (cells_in a.list.now) = sym c.in_ok-check_cells.was ∙ c.check_cells.ensures.told in
    let few = count_small o.panel o.entry o.exit a.list.now (length a.scratch.now) (sym (after_good _ sizes cells)) in
    record { fits = omega (arith, few, length_cells a.list.now) }

pub returns : goal.returns
returns c =
    all_good _ _ _ _ _ (sym c.check_sizes.ensures ∙ c.in_ok-check_sizes.was) c.check_cells.ensures.left
    (sym c.check_cells.ensures.told ∙ c.in_ok-check_cells.was) (omega (arith, length_cells c.args.list.now))
