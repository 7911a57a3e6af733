-- Reading and the form agree: `line_in` gives an order exactly if the input begins with the order's line (`reads_line`, `is_line`).
use Prim.Native.Nat.{ℕ, ◌≤◌}
use mathlib.Core.Path.{◌≡◌, refl, sym, ap, subst₃, ◌∙◌}
use mathlib.Core.List.{List}
use Rattle.grid.specs.declared.Panel.{Panel}
use Rattle.grid.specs.declared.Cell.{Cell}
use Rattle.grid.specs.Panel.{panel, cell}
use Rattle.grid.proofs.Facts.{clash}
use Rattle.text.specs.Field.{blank, line_feed, largest_number, field_of, field, and_then}
use Rattle.text.proofs.Numbers.{reads_next, Begins, goes_on}
use Rattle.grid.specs.declared.Order.{Order}
use Rattle.std.specs.Prelude.{Option, Some, None, unwrap_or}
use Rattle.order.specs.Line.{order, line_of, line_in}

-- the seven numbers of an order are not too large
pub record NotTooLarge (p : Panel) (s t : Cell) : Type 0 where
  pub width : p.width ≤ largest_number
  pub height : p.height ≤ largest_number
  pub pitch : p.pitch ≤ largest_number
  pub sx : s.x ≤ largest_number
  pub sy : s.y ≤ largest_number
  pub tx : t.x ≤ largest_number
  pub ty : t.y ≤ largest_number

-- ---- what is written is read

-- every order's line is read as the order, whatever is behind it
pub reads_line : (p : Panel) (s t : Cell) (rest : List ℕ) → NotTooLarge p s t → line_in (line_of p s t rest) ≡ Some (order p s t)
reads_line p s t rest h =
    let from-q = field_of p.pitch line_feed rest in
    let from-ty = field_of t.y blank from-q in
    let from-tx = field_of t.x blank from-ty in
    let from-sy = field_of s.y blank from-tx in
    let from-sx = field_of s.x blank from-sy in
    let from-n = field_of p.height blank from-sx in
    let read : Some (order p s t) ≡ line_in (line_of p s t rest) =
    reads_next None p.width blank from-n _ refl h.width
    (reads_next None p.height blank from-sx _ refl h.height
    (reads_next None s.x blank from-sy _ refl h.sx
    (reads_next None s.y blank from-tx _ refl h.sy
    (reads_next None t.x blank from-ty _ refl h.tx
    (reads_next None t.y blank from-q _ refl h.ty
    (reads_next None p.pitch line_feed rest _ refl h.pitch refl)))))) in
    sym read

-- ---- what is read is written so

-- reading that goes on to an order has read a number
order_on : (e : ℕ) (l : List ℕ) (k : ℕ → List ℕ → Option Order) {p : Panel} {s t : Cell} → and_then None (field e l) k ≡ Some (order p s t)
    → Begins e l k (Some (order p s t))
order_on e l k q = goes_on None e l k (λ z. clash (cc)) q

-- equal orders have equal parts
same_parts : {p q : Panel} {s t u v : Cell} → Some (order p s t) ≡ Some (order q u v) → (p ≡ q) × (s ≡ u) × (t ≡ v)
same_parts {p} {s = s} {t = t} e =
    let same = ap (λ (o : Option Order). unwrap_or o (order p s t)) e in
    (ap (λ (o : Order). o.panel) same, ap (λ (o : Order). o.entry) same, ap (λ (o : Order). o.exit) same)

-- an input that is read as an order begins with the order's line, and its numbers are not too large
pub is_line : (l : List ℕ) (p : Panel) (s t : Cell) → line_in l ≡ Some (order p s t) → (rest : List ℕ) × (l ≡ line_of p s t rest) × NotTooLarge p s t
is_line l p s t e =
    let m = order_on blank l _ e in
    let n = order_on blank m.rest _ m.on in
    let sx = order_on blank n.rest _ n.on in
    let sy = order_on blank sx.rest _ sx.on in
    let tx = order_on blank sy.rest _ sy.on in
    let ty = order_on blank tx.rest _ tx.on in
    let q = order_on line_feed ty.rest _ ty.on in
    let made = panel m.number n.number q.number in
    let entry = cell sx.number sy.number in
    let exit = cell tx.number ty.number in
    let same : Some (order made entry exit) ≡ Some (order p s t) = q.on in
    let (is-p, is-s, is-t) = same_parts same in
    let from-ty = ty.bytes ∙ ap (field_of ty.number blank) q.bytes in
    let from-tx = tx.bytes ∙ ap (field_of tx.number blank) from-ty in
    let from-sy = sy.bytes ∙ ap (field_of sy.number blank) from-tx in
    let from-sx = sx.bytes ∙ ap (field_of sx.number blank) from-sy in
    let from-n = n.bytes ∙ ap (field_of n.number blank) from-sx in
    let line : l ≡ line_of made entry exit q.rest = m.bytes ∙ ap (field_of m.number blank) from-n in
    let small : NotTooLarge made entry exit = record {
      width = m.small;
      height = n.small;
      pitch = q.small;
      sx = sx.small;
      sy = sy.small;
      tx = tx.small;
      ty = ty.small;
    } in
    (q.rest, line ∙ (λ i. line_of (is-p i) (is-s i) (is-t i) q.rest), subst₃ NotTooLarge is-p is-s is-t small)
