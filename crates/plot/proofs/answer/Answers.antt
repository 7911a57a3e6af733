-- By what the line comes to: its refusal's text, or the layer of the track drawn, whose list is plottable.
use Prim.Native.Nat.{ℕ, ◌*◌}
use mathlib.Core.Path.{sym, ap}
use mathlib.Core.List.{List}
use native.Mathlib.Omega.{arith}
use lib.ListN.{take}
use borrow.Author.Rules.{rules}
use Rattle.grid.specs.declared.Panel.{Panel}
use Rattle.list.proofs.Tracks.{is_all_on}
use Rattle.printout.specs.Text.{refused_text}
use Rattle.text.proofs.Puts.{puts_is}
use Rattle.gerber_write.specs.Write.{Plottable}
use Rattle.gerber_write.proofs.Draws.{layer_small}
use Rattle.order.proofs.Answers.{Drawn, drawn, drawing_is, printed}
use Rattle.plot.specs.Plot.{drawing_layer}
use Rattle.plot.proofs.answer.Goals as goal

-- the list of a track that was drawn
plottable : {p : Panel} {n : ℕ} {buffer : List ℕ} → Drawn p n buffer → Plottable p (take (2 * n) buffer)
plottable d = record {
  panel = d.panel;
  on = is_all_on d.on;
  some = omega (arith, d.some, d.lent);
  few = omega (arith, d.few, d.lent);
}

pub slice_bounds-cells-end : goal.slice_bounds-cells-end
slice_bounds-cells-end c = (drawn _ (drawing_is c.in-Ok.is c.draw_line.ensures)).fits

pub slice_bounds-put_layer-end : goal.slice_bounds-put_layer-end
slice_bounds-put_layer-end c = sym (drawn _ (drawing_is c.in-Ok.is c.draw_line.ensures)).lent

pub put_layer-requires-clause-plottable : goal.put_layer-requires-clause-plottable
put_layer-requires-clause-plottable c = plottable (drawn _ (drawing_is c.in-Ok.is c.draw_line.ensures))

pub put_layer-requires-clause-list_in_bounds : goal.put_layer-requires-clause-list_in_bounds
put_layer-requires-clause-list_in_bounds c =
    let can = plottable (drawn _ (drawing_is c.in-Ok.is c.draw_line.ensures)) in
    search (rules, layer_small can)

pub returns-in-Err : goal.returns-in-Err
returns-in-Err c =
    printed drawing_layer (drawing_is c.in-Err.is c.draw_line.ensures) (puts_is (ap refused_text c.from.ensures) c.put_refused.ensures)

pub returns-in-Ok : goal.returns-in-Ok
returns-in-Ok c = printed drawing_layer (drawing_is c.in-Ok.is c.draw_line.ensures) c.put_layer.ensures.put
