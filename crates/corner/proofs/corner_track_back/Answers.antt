-- Line by line from the end of the buffer's part: what `Ended` gives at the lines that `peel` takes off, and at the last line.
use mathlib.Core.Path.{sym, ◌∙◌}
use Rattle.corner.proofs.Backward.{ended, end_small, home_small, less, lines_fit, line_start, step, last_fits, finish}
use Rattle.corner.proofs.corner_track_back.Goals as goal

pub loop-p-init : goal.loop-p-init
loop-p-init c = ended c.requires c.count-count.ensures

pub overflow_sub-at : goal.overflow_sub-at
overflow_sub-at c =
    line_start c.requires c.loop-p.invariant c.loop-p.rest.fits (sym c.is_one_line.ensures ∙ c.loop-p-test.true) c.peel-p.ensures.lines

pub draw_sweep-requires-clause-fact_1 : goal.draw_sweep-requires-clause-fact_1
draw_sweep-requires-clause-fact_1 c =
    end_small c.requires c.loop-p.invariant c.loop-p.rest.fits (sym c.is_one_line.ensures ∙ c.loop-p-test.true) c.peel-p.ensures.lines

pub draw_sweep-requires-clause-fact_2 : goal.draw_sweep-requires-clause-fact_2
draw_sweep-requires-clause-fact_2 c =
    home_small c.requires c.loop-p.invariant c.loop-p.rest.fits (sym c.is_one_line.ensures ∙ c.loop-p-test.true) c.peel-p.ensures.lines

pub draw_sweep-requires-clause-fact_3 : goal.draw_sweep-requires-clause-fact_3
draw_sweep-requires-clause-fact_3 c =
    let n = sym c.is_one_line.ensures ∙ c.loop-p-test.true in
    lines_fit c.requires c.loop-p.invariant c.loop-p.rest.fits n c.peel-p.ensures.lines

pub loop-p-smaller : goal.loop-p-smaller
loop-p-smaller c =
    let e = c.behind-rest.ensures in
    let n = sym c.is_one_line.ensures ∙ c.loop-p-test.true in
    rw (e.corner, e.opposite) (less c.requires c.loop-p.invariant c.loop-p.rest.fits n c.peel-p.ensures.lines)

pub loop-p-preserved : goal.loop-p-preserved
loop-p-preserved c =
    let e = c.behind-rest.ensures in
    let n = sym c.is_one_line.ensures ∙ c.loop-p-test.true in
    rw (e.corner, e.opposite, e.target)
    (step c.requires c.loop-p.invariant c.loop-p.rest.fits n c.peel-p.ensures.lines c.draw_sweep.ensures)

pub draw_sweep-requires-2-clause-fact_3 : goal.draw_sweep-requires-2-clause-fact_3
draw_sweep-requires-2-clause-fact_3 c =
    last_fits c.requires c.loop-p.invariant c.loop-p.rest.fits (sym c.is_one_line.ensures ∙ c.loop-p-test.false)

pub returns : goal.returns
returns c = (
  c.count-count.ensures,
  let w = rw c.line_way.ensures at c.draw_sweep-2.ensures in
      finish c.requires c.loop-p.invariant c.loop-p.rest.fits (sym c.is_one_line.ensures ∙ c.loop-p-test.false) w,
)
