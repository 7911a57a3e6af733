-- By what the line comes to: its refusal's text, or the text of the track drawn.
use mathlib.Core.Path.{sym, ap}
use native.Mathlib.Omega.{arith}
use Rattle.printout.specs.Text.{refused_text}
use Rattle.text.proofs.Puts.{puts_is}
use Rattle.order.specs.Order.{drawing_text}
use Rattle.order.proofs.Answers.{drawn, drawing_is, printed}
use Rattle.order.proofs.answer.Goals as goal

pub slice_bounds-cells-end : goal.slice_bounds-cells-end
slice_bounds-cells-end c = (drawn _ (drawing_is c.in-Ok.is c.draw_line.ensures)).fits

pub slice_bounds-put_answer-end : goal.slice_bounds-put_answer-end
slice_bounds-put_answer-end c = sym (drawn _ (drawing_is c.in-Ok.is c.draw_line.ensures)).lent

pub put_answer-requires-clause-le_cells : goal.put_answer-requires-clause-le_cells
put_answer-requires-clause-le_cells c =
    let d = drawn _ (drawing_is c.in-Ok.is c.draw_line.ensures) in
    (omega (arith, d.some), d.few)

pub put_answer-requires-clause-cells_value : goal.put_answer-requires-clause-cells_value
put_answer-requires-clause-cells_value c = sym (drawn _ (drawing_is c.in-Ok.is c.draw_line.ensures)).size

pub returns-in-Err : goal.returns-in-Err
returns-in-Err c =
    printed drawing_text (drawing_is c.in-Err.is c.draw_line.ensures) (puts_is (ap refused_text c.from.ensures) c.put_refused.ensures)

pub returns-in-Ok : goal.returns-in-Ok
returns-in-Ok c = printed drawing_text (drawing_is c.in-Ok.is c.draw_line.ensures) c.put_answer.ensures
