-- The test of a step is the first of the tests from it on.
use Prim.Native.Nat.{◌*◌, ◌-◌}
use mathlib.Core.Bool.{true, false}
use mathlib.Core.Path.{◌≡◌, sym, ◌∙◌}
use Rattle.std.proofs.Common.{rules}
use Rattle.grid.specs.Panel.{neighbours}
use Rattle.grid.proofs.Tests.{turn_failed, turn_passed}
use Rattle.list.specs.List.{cell_at}
use Rattle.list.proofs.Turns.{step_turn_at, step_end_at}
use Rattle.list.proofs.all_adjacent.Goals as goal

pub returns-then-not-adjacent : goal.returns-then-not-adjacent
returns-then-not-adjacent c =
    let b = c.args.list.now in
    let i = c.loop-i.i in
    let far : neighbours (cell_at b (2 * (i - 1))) (cell_at b (2 * i)) ≡ false = search rules in
    turn_failed _ _ (step_turn_at b i c.loop-i.auto.i c.loop-i-test.true) c.loop-i.invariant far

pub loop-i-preserved : goal.loop-i-preserved
loop-i-preserved c =
    let b = c.args.list.now in
    let i = c.loop-i.i in
    let near : neighbours (cell_at b (2 * (i - 1))) (cell_at b (2 * i)) ≡ true = search rules in
    turn_passed _ _ (step_turn_at b i c.loop-i.auto.i c.loop-i-test.true) c.loop-i.invariant near

pub returns : goal.returns
returns c = sym (step_end_at c.args.list.now c.loop-i.i c.loop-i-test.false) ∙ c.loop-i.invariant
