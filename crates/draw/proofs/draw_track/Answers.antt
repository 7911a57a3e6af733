-- Equal terminals are the one cell, different ones the track between them.
use native.Mathlib.Omega.{arith}
use borrow.Author.Rules.{rules}
use Rattle.grid.proofs.Facts.{same_eq, same_ne}
use Rattle.draw.proofs.Drawing.{spot_room, ready}
use Rattle.draw.proofs.Answer.{spot_drawn, two_drawn}
use Rattle.draw.proofs.draw_track.Goals as goal

pub put_cell-requires : goal.put_cell-requires
put_cell-requires c =
    let o = c.requires 0 in
    let e = same_eq c.args.s c.args.t (search rules) in
    let room = spot_room o e in
    (omega (arith, o.entry.right, o.sides.widest), omega (arith, o.entry.bottom, o.sides.highest), omega arith)

pub returns-then-eq : goal.returns-then-eq
returns-then-eq c =
    let e = same_eq c.args.s c.args.t (search rules) in
    spot_drawn _ _ _ _ _ e (spot_room (c.requires 0) e) c.put_cell.ensures

pub draw_longest-requires : goal.draw_longest-requires
draw_longest-requires c =
    let d = same_ne c.args.s c.args.t (search rules) in
    λ q. ready (c.requires q) d

pub returns : goal.returns
returns c = two_drawn _ _ _ _ _ (same_ne c.args.s c.args.t (search rules)) c.draw_longest.ensures
