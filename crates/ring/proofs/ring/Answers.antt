-- A good call draws the corner track to a neighbour of its first cell, a longest closed track.
use borrow.Author.Rules.{rules}
use mathlib.Core.Path.{sym, ◌∙◌}
use native.Mathlib.Omega.{arith}
use Rattle.grid.proofs.Facts.{beside}
use Rattle.ring.proofs.Closed.{ready, answered}
use Rattle.ring.proofs.ring.Goals as goal

pub corner_track-requires : goal.corner_track-requires
corner_track-requires c =
    ready c.args.p _ (sym c.check_ring.ensures ∙ c.in_ok-check_ring.was) _ (search rules) (beside (omega arith))

pub returns : goal.returns
returns c =
    let e = c.corner_track.ensures in
    answered c.args.p _ (sym c.check_ring.ensures ∙ c.in_ok-check_ring.was) _ (search rules) (beside (omega arith)) e.0 e.1 (λ q. omega arith)
