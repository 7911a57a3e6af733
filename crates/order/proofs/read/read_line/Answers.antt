-- What the numbers from here on make of the line, with those read before, is the line.
use Prim.Native.Nat.{ℕ, ◌-◌}
use mathlib.Core.Path.{◌≡◌, ap, ◌∙◌}
use native.Mathlib.Omega.{arith}
use lib.ListN.{drop, length-set}
use Rattle.std.specs.Prelude.{None}
use Rattle.text.specs.Field.{line_feed}
use Rattle.text.proofs.Reading.{reads_on}
use Rattle.order.proofs.Lines.{order_made, line_from, first_on}
use Rattle.order.proofs.read.read_line.Goals as goal

pub loop-i-preserved : goal.loop-i-preserved
loop-i-preserved c =
    let l = c.loop-i in
    let on = first_on c.args.input.now l.first l.from l.i c.loop-i-test.true c.read_field.ensures in
    (length-set l.first l.i _ ∙ l.invariant.0, on _ c.in_ok-field.was ∙ l.invariant.1)

pub returns : goal.returns
returns c =
    let l = c.loop-i in
    let input = c.args.input.now in
    let e : 0 ≡ 6 - l.i = omega (arith, c.loop-i-test.false) in
    let whole = ap (λ (k : ℕ). line_from k l.first (drop l.from input)) e ∙ l.invariant.1 in
    order_made l.first _ c.panel_of.ensures ∙ reads_on None input line_feed l.from _ c.read_field-2.ensures c.in_ok-pitch.was ∙ whole
