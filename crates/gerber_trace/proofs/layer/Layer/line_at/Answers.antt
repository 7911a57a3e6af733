-- The text X, the two numbers and the operation, each behind the one before.
use Rattle.std.proofs.Common.{ℕ, ◌+◌, ◌≡◌, ◌∙◌, sym, true, Option, Some, List, drop, length-drop, arith, rules}
use Prim.Native.Char.{code}
use Rattle.grid.specs.declared.Panel.{Panel}
use Rattle.text.specs.Ascii.{ascii}
use Rattle.text.specs.Front.{begins, behind_text}
use Rattle.text.specs.Field.{field, parsed}
use Rattle.text.specs.declared.Field.{Field}
use Rattle.text.proofs.Fronts.{front_room, behind_yes, behind_no}
use Rattle.text.proofs.Reading.{reads_none, reads_on}
use Rattle.gerber_trace.specs.Trace.{Aim, centred, behind_d, behind_y, behind_x, line_at}
use Rattle.gerber_trace.specs.Trace.Aim.{nothing}
use Rattle.gerber_trace.proofs.layer.Layer.line_at.Goals as goal

-- behind the X; behind a and Y; behind b and D
module _ (p : Panel) (O F : List ℕ) (at : ℕ) (e : begins (ascii "X") (drop at F) ≡ true) {y : Aim} where
  on_x : y ≡ behind_x p O (drop (at + 1) F) → y ≡ line_at p O (drop at F)
  on_x h = behind_yes (ascii "X") F at nothing (behind_x p O) e h

  module _ {r : Option Field} (f : parsed F r ≡ field (code "Y") (drop (at + 1) F)) {a : Field} (q : r ≡ Some a) where
    on_a : y ≡ behind_y p O a.value (drop a.next F) → y ≡ line_at p O (drop at F)
    on_a h = on_x (h ∙ reads_on nothing F (code "Y") (at + 1) (behind_y p O) f q)

    on_b : {s : Option Field} → parsed F s ≡ field (code "D") (drop a.next F) → {b : Field} → s ≡ Some b
        → y ≡ behind_text nothing O (drop b.next F) (centred p a.value b.value) → y ≡ line_at p O (drop at F)
    on_b g t h = on_a (h ∙ reads_on nothing F (code "D") a.next (behind_d p O a.value) g t)

pub returns-in_err-x : goal.returns-in_err-x
returns-in_err-x c =
    let p = c.args.self.panel in
    let file = c.args.self.file.now in
    let e =
    on_x p c.args.operation.now file c.args.at (sym c.text_at.ensures ∙ c.if-not-text_at.false)
    (reads_none nothing file (code "Y") (c.args.at + 1) (behind_y p c.args.operation.now) c.read_field.ensures c.in_err-x.was) in
    search rules

pub returns-in_err-y : goal.returns-in_err-y
returns-in_err-y c =
    let p = c.args.self.panel in
    let file = c.args.self.file.now in
    let x = c.in_ok-x.x in
    let e =
    on_a p c.args.operation.now file c.args.at (sym c.text_at.ensures ∙ c.if-not-text_at.false) c.read_field.ensures c.in_ok-x.was
    (reads_none nothing file (code "D") x.next (behind_d p c.args.operation.now x.value) c.read_field-2.ensures c.in_err-y.was) in
    search rules

pub returns-then-not-text_at-2 : goal.returns-then-not-text_at-2
returns-then-not-text_at-2 c =
    let p = c.args.self.panel in
    let file = c.args.self.file.now in
    let x = c.in_ok-x.x in
    let y = c.in_ok-y.y in
    on_b p c.args.operation.now file c.args.at (sym c.text_at.ensures ∙ c.if-not-text_at.false) c.read_field.ensures c.in_ok-x.was
    c.read_field-2.ensures c.in_ok-y.was
    (behind_no c.args.operation.now file y.next nothing (centred p x.value y.value) (sym c.text_at-2.ensures ∙ c.if-not-text_at-2.true))

pub overflow_add-y : goal.overflow_add-y
overflow_add-y c =
    let file = c.args.self.file.now in
    let k = c.in_ok-y.y.next in
    omega (arith, front_room c.args.operation.now file k (sym c.text_at-2.ensures ∙ c.if-not-text_at-2.false), length-drop k file)

pub returns : goal.returns
returns c =
    let p = c.args.self.panel in
    let file = c.args.self.file.now in
    let x = c.in_ok-x.x in
    let y = c.in_ok-y.y in
    on_b p c.args.operation.now file c.args.at (sym c.text_at.ensures ∙ c.if-not-text_at.false) c.read_field.ensures c.in_ok-x.was
    c.read_field-2.ensures c.in_ok-y.was
    (behind_yes c.args.operation.now file y.next nothing (centred p x.value y.value) (sym c.text_at-2.ensures ∙ c.if-not-text_at-2.false) c.centred.ensures)
