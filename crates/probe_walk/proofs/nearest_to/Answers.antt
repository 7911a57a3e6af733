-- The nearest of the cells so far, with those to come, is that of the whole list.
use native.Mathlib.Omega.{arith}
use Rattle.probe_walk.proofs.Nearest.{nearer_same, nearer_kept, nearer_now}
use Rattle.probe_walk.proofs.Pairs.{below, pair_cell, pair_bytes}
use Rattle.probe_walk.proofs.nearest_to.Goals as goal
use Rattle.probe_walk.proofs.nearest_to.Goals.{then-away-least, else-away-least}

pub squared_distance-away-requires : goal.squared_distance-away-requires
squared_distance-away-requires c =
    let b = c.pairs-pair-items in (
      c.requires.fits,
      pair_bytes c.args.list.now (λ i. (c.type_inv.list i).fits) b.result.now b.ensures.cells c.loop-pair.pair-index c.loop-pair-test.true c.from-next.ensures,
    )

pub loop-pair-preserved : goal.loop-pair-preserved
loop-pair-preserved c =
    let b = c.pairs-pair-items.result.now in
    let e = c.pairs-pair-items.ensures.cells in
    let i = c.loop-pair.pair-index in
    let n = c.loop-pair.invariant in
    let here = pair_cell b e i c.loop-pair-test.true c.from-next.ensures in
    let more = below b e i c.loop-pair-test.true c.from-next.ensures in
    elim c.if-away-least.branch [
      | then-away-least w ↦ nearer_same w.nearest-is w.least-is (nearer_now n more here c.squared_distance-away.ensures w.if-away-least.true)
      | else-away-least w ↦ nearer_same w.nearest-is w.least-is (nearer_kept n more here (omega (arith, w.if-away-least.false, c.squared_distance-away.ensures)))
    ]
