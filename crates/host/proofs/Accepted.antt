-- What Draw draws, Judge accepts: over the two contracts, the bytes of the cells that Draw has written are accepted with the count that Draw gave.
use Rattle.std.specs.Prelude.{Ok}
use Prim.Native.Nat.{ℕ, ◌*◌, ◌≤◌}
use native.Mathlib.Omega.{arith}
use mathlib.Core.Path.{◌≡◌, sym}
use mathlib.Core.List.{List}
use lib.Dec.{leb}
use lib.ListN.{length, take, length-take}
use Rattle.grid.specs.declared.Panel.{Panel}
use Rattle.grid.specs.declared.Cell.{Cell}
use Rattle.grid.specs.declared.Cells.{Cells}
use Rattle.grid.specs.declared.Refusal.TheVariants.{ShortBuffer}
use Rattle.grid.specs.Panel.{area}
use Rattle.grid.specs.Check.{check_order, expect}
use Rattle.grid.proofs.Answers.{cells_good}
use Rattle.grid.proofs.Facts.{is_good}
use Rattle.grid.proofs.Passed.{after_passed, good_order}
use Rattle.list.proofs.Cells.{length_cells}
use Rattle.count.specs.Order.{order_count}
use Rattle.draw.specs.Draw.{draw_check, Draws}
use Rattle.judge.specs.Judge.{judge_of}
use Rattle.judge.proofs.Theorem.{drawn}

pub drawn_accepted : (p : Panel) (s t : Cell) (old new : List ℕ) (k : Cells) (room : ℕ) → Draws p s t old new (Ok k) → area p ≤ room
    → judge_of p s t (take (2 * k.0) new) room ≡ Ok k
drawn_accepted p s t old new k room d h =
    let c = (cells_good (draw_check p s t (length old)) (order_count p s t) k (sym d.gives.answers)).0 in
    let g = good_order p s t (after_passed (check_order p s t) (expect (leb (2 * order_count p s t) (length old)) ShortBuffer (Ok tt)) c) in
    let n : 2 * k.0 ≤ length new = omega (arith, d.leaves.longest.size, length_cells (take (2 * k.0) new), length-take (2 * k.0) new) in
    drawn p s t k.0 new room (is_good g.panel) n d.leaves.longest.track h
