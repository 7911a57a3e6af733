-- After i turns the first i legs are written.
use lib.ListN.{take}
use Rattle.plan.specs.Drawing.{Written}
use Rattle.legs.proofs.draw_legs.Given as goal

abbrev pub invariant-loop-leg : goal.invariant-loop-leg
invariant-loop-leg l = Written (take l.leg-index l.legs) (record { 0 = l.cells }) l.initial.buf l.buf
