-- Line by line from the corner: what `Begun` gives at the lines that `peel` takes off, and at the last line.
use mathlib.Core.Path.{sym, ◌∙◌}
use native.Mathlib.Omega.{arith}
use Rattle.corner.proofs.Forward.{begun, far_small, lines_fit, less, step, last_fits, finish}
use Rattle.corner.proofs.corner_track.Goals as goal

pub loop-p-init : goal.loop-p-init
loop-p-init c = begun c.requires

pub draw_sweep-requires-clause-fact_2 : goal.draw_sweep-requires-clause-fact_2
draw_sweep-requires-clause-fact_2 c =
    far_small c.requires c.loop-p.invariant c.loop-p.rest.fits (sym c.is_one_line.ensures ∙ c.loop-p-test.true) c.peel-p.ensures.lines

pub draw_sweep-requires-clause-fact_3 : goal.draw_sweep-requires-clause-fact_3
draw_sweep-requires-clause-fact_3 c =
    lines_fit c.requires c.loop-p.invariant c.loop-p.rest.fits (sym c.is_one_line.ensures ∙ c.loop-p-test.true) c.peel-p.ensures.lines

pub loop-p-smaller : goal.loop-p-smaller
loop-p-smaller c =
    let e = c.behind-rest.ensures in
    let n = sym c.is_one_line.ensures ∙ c.loop-p-test.true in
    rw (e.corner, e.opposite) (less c.requires c.loop-p.invariant c.loop-p.rest.fits n c.peel-p.ensures.lines)

pub loop-p-preserved : goal.loop-p-preserved
loop-p-preserved c =
    let e = c.behind-rest.ensures in
    let n = sym c.is_one_line.ensures ∙ c.loop-p-test.true in
    rw (e.corner, e.opposite, e.target)
    (step c.requires c.loop-p.invariant c.loop-p.rest.fits n c.peel-p.ensures.lines (omega arith) c.draw_sweep.ensures)

pub draw_sweep-requires-2-clause-fact_3 : goal.draw_sweep-requires-2-clause-fact_3
draw_sweep-requires-2-clause-fact_3 c =
    last_fits c.requires c.loop-p.invariant c.loop-p.rest.fits (sym c.is_one_line.ensures ∙ c.loop-p-test.false)

pub returns : goal.returns
returns c = (
  c.count-count.ensures,
  let w = rw c.line_way.ensures at c.draw_sweep-2.ensures in
      finish c.requires c.loop-p.invariant c.loop-p.rest.fits (sym c.is_one_line.ensures ∙ c.loop-p-test.false) w,
)
