-- The walk begins with no pair taken, goes on pair by pair, and ends behind a cell off the panel.
use mathlib.Core.Path.{subst}
use Rattle.std.proofs.Common.{rules, tests}
use Rattle.judge.specs.Walk.{Walked}
use Rattle.judge.proofs.Walks.{begin, onward, walked}
use Rattle.judge.proofs.walk.Goals as goal

pub loop-pair-init : goal.loop-pair-init
loop-pair-init c = begin _ _ _ c.start-k.ensures c.requires.clean

pub returns-then-not-k : goal.returns-then-not-k
returns-then-not-k c =
    let p = c.args.o.panel in
    let s = c.args.o.entry in
    let k = c.take_cell-k in
    let off = c.if-not-k.true in
    subst (λ l. Walked p s l c.args.scratch.now k.result k.new.scratch) c.pairs-pair-items.ensures.cells
    (walked _ _ _ (onward _ _ _ c.loop-pair.invariant c.loop-pair-test.true c.from.ensures k.ensures)
    (λ on. search (rules, tests, on, off)))

pub loop-pair-preserved : goal.loop-pair-preserved
loop-pair-preserved c = onward _ _ _ c.loop-pair.invariant c.loop-pair-test.true c.from.ensures c.take_cell-k.ensures
