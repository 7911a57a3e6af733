-- An order that is not refused, the track drawn for it, and the promise put together.
use Rattle.grid.specs.declared.Cells.{Cells}
use Rattle.std.specs.Prelude.{Option, Some, None, Result, Ok, Err}
use Rattle.grid.specs.declared.Refusal.{Refusal}
use Prim.Native.Nat.{ℕ, ◌+◌, ◌*◌, ◌≤◌}
use mathlib.Core.Path.{◌≡◌, refl, sym, ap, subst, ◌∙◌}
use mathlib.Core.List.{List, ◌++◌}
use native.Mathlib.Omega.{arith}
use native.Mathlib.Nat.{zero-add}
use lib.ListN.{length, take, drop, length-append, take-append-drop}
use lib.Seq.{length-take-le}
use borrow.Author.Tests.{le-leb}
use Rattle.grid.specs.declared.Panel.{Panel}
use Rattle.grid.specs.declared.Cell.{Cell}
use Rattle.grid.specs.Panel.{GoodPanel, OnPanel}
use Rattle.grid.specs.Track.{All}
use Rattle.grid.specs.Bytes.{front}
use Rattle.grid.specs.Check.{check_order}
use Rattle.grid.proofs.Answers.{behind_good}
use Rattle.grid.proofs.Facts.{clash, area_small}
use Rattle.grid.proofs.Passed.{GoodOrder, good_order}
use Rattle.grid.proofs.Tests.{expect_yes, after_good, answer_good}
use Rattle.count.specs.declared.ClassCount.{ClassCount}
use Rattle.count.specs.Order.{order_class_count, order_count}
use Rattle.count.proofs.Terminals.{order_bounds}
use Rattle.list.proofs.Cells.{length_cells}
use Rattle.bound.specs.Bound.{bound_of}
use Rattle.draw.specs.Draw.{draw_check, LongestAtFront, Leaves, Draws}
use Rattle.text.specs.Put.{put, Put}
use Rattle.grid.specs.declared.Order.{Order}
use Rattle.order.specs.Line.{order}
use Rattle.order.specs.declared.Drawing.{Drawing}
use Rattle.order.specs.Order.{bound_drawing, drawing_of, Chosen, ChosenFor, drawn_cells, DrawsLine, Printed}

-- ---- an order

-- what Bound answers, and the track chosen by it
pub draws_bound : (p : Panel) (s t : Cell) (b : Result ClassCount Refusal) {buffer : List ℕ} → bound_of p s t ≡ b
    → Chosen b p s t (front (drawn_cells (bound_drawing p b)) buffer) → DrawsLine (Some (order p s t)) (bound_drawing p b) buffer
draws_bound p s t b {buffer} e h = record {
  answers = ap (bound_drawing p) (sym e);
  chosen = subst (λ (d : Result ClassCount Refusal). Chosen d p s t (front (drawn_cells (bound_drawing p b)) buffer)) (sym e) h;
}

-- where Bound gives class and count
module _ (p : Panel) (s t : Cell) (f : ClassCount) (e : bound_of p s t ≡ Ok f) where
  abbrev n : ℕ
  n = f.count.0

  -- the order is good, and they are its own
  given_good : (check_order p s t ≡ Ok tt) × (order_class_count p s t ≡ f)
  given_good =
      let (g, h) = behind_good (check_order p s t) Err (Ok (order_class_count p s t)) (Ok f) (λ r q. clash (cc)) e in
      (g, (cc))

  ready : GoodOrder p s t
  ready = good_order p s t given_good.0

  counted : order_count p s t ≡ n
  counted = ap (λ (f : ClassCount). f.count.0) given_good.1

  count_bounds : (1 ≤ n) × (n ≤ 16384)
  count_bounds =
      let (some, few) = order_bounds p s t ready.entry ready.exit in
      (omega (arith, counted), omega (arith, counted, area_small ready.panel.sides))

  -- Draw leaves a longest track in a buffer for the cells of any track
  module _ {old new : List ℕ} {r : Result Cells Refusal} (size : length old ≡ 32768) (d : Draws p s t old new r) where
    answered : r ≡ Ok (record { 0 = n })
    answered =
        let room = le-leb (2 * order_count p s t) (length old) (omega (arith, counted, count_bounds)) in
        let passed : draw_check p s t (length old) ≡ (Ok tt) = sym (after_good _ given_good.0 (expect_yes _ _ room refl)) in
        d.gives.answers ∙ sym (answer_good _ _ passed refl) ∙ ap (λ (k : ℕ). Ok (record { 0 = k })) counted

    pub draws_given : DrawsLine (Some (order p s t)) (Ok (record { panel = p; found = f })) new
    draws_given =
        let left : LongestAtFront p s t n old new = subst (Leaves p s t old new) answered d.leaves in
        draws_bound p s t (Ok f) e (left.longest, left.cold)

-- ---- the track drawn for a line

-- what both texts ask: n cells of a good panel at the front of a buffer
pub record Drawn (p : Panel) (n : ℕ) (buffer : List ℕ) : Type 0 where
  pub panel : GoodPanel p
  pub on : All (OnPanel p) (front n buffer)
  pub size : length (front n buffer) ≡ n
  pub some : 1 ≤ n
  pub few : n ≤ 16384
  pub fits : 2 * n ≤ length buffer
  pub lent : length (take (2 * n) buffer) ≡ 2 * n

-- a drawing that is given comes of an answer of Bound that is
abbrev drawing_in : Drawing → Result Drawing Refusal → Drawing
drawing_in d (Ok e) = e
drawing_in d (Err r) = d

is_given : {p : Panel} {f : ClassCount} (q : Panel) (b : Result ClassCount Refusal) → bound_drawing q b ≡ Ok (record { panel = p; found = f }) → (q ≡ p) × (b ≡ Ok f)
is_given q (Err r) e = clash (cc)
is_given q (Ok g) e =
    let same = ap (drawing_in (record { panel = q; found = g })) e in
    (ap (λ (d : Drawing). d.panel) same, ap (λ (d : Drawing). Ok d.found) same)

-- what is drawn for a line is one; its buffer is long enough, for so many cells are read from its front
pub drawn : (line : Option Order) {p : Panel} {f : ClassCount} {buffer : List ℕ} → DrawsLine line (Ok (record { panel = p; found = f })) buffer → Drawn p f.count.0 buffer
drawn None h = clash (cc h.answers)
drawn (Some o) {f = f} {buffer} h =
    let q = o.panel in
    let s = o.entry in
    let t = o.exit in
    let n = f.count.0 in
    let (same, e) = is_given q (bound_of q s t) (sym h.answers) in
    let chosen : Chosen (Ok f) q s t (front n buffer) = subst (λ (b : Result ClassCount Refusal). Chosen b q s t (front n buffer)) e h.chosen in
    let longest = chosen.0 in
    let (some, few) = count_bounds q s t f e in
    let list = take (2 * n) buffer in
    let behind = drop (2 * n) buffer in
    let whole : length list + length behind ≡ length buffer = sym (length-append list behind) ∙ ap length (take-append-drop (2 * n) buffer) in
    let fits : 2 * n ≤ length buffer = omega (arith, longest.size, length_cells list, whole) in
    subst (λ (p : Panel). Drawn p n buffer) same (record {
      panel = (ready q s t f e).panel;
      on = longest.track.within;
      size = longest.size;
      some = some;
      few = few;
      fits = fits;
      lent = length-take-le (2 * n) buffer fits;
    })

-- ---- the promise

-- an equal line, and an equal answer
pub line_is : {x y : Option Order} {d : Result Drawing Refusal} {buffer : List ℕ} → x ≡ y → DrawsLine x d buffer → DrawsLine y d buffer
line_is {d = d} {buffer} e h = subst (λ (x : Option Order). DrawsLine x d buffer) e h

pub drawing_is : {line : Option Order} {d e : Result Drawing Refusal} {buffer : List ℕ} → d ≡ e → DrawsLine line d buffer → DrawsLine line e buffer
drawing_is {line} {buffer = buffer} q h = subst (λ (d : Result Drawing Refusal). DrawsLine line d buffer) q h

module _ {old new : List ℕ} {k : ℕ} where
  -- the text of what the line came to is put, for the track drawn, whatever text goes by it
  pub printed : (text : Result Drawing Refusal → List Cell → List ℕ) {line : Option Order} {d : Result Drawing Refusal} {buffer : List ℕ} → DrawsLine line d buffer
      → Put old 0 (text d (front (drawn_cells d) buffer)) new k → Printed (ChosenFor line) (text (drawing_of line)) old new k
  unfolding put
  printed text {line} {d} {buffer} h f =
      let track = front (drawn_cells d) buffer in
      subst (λ (d : Result Drawing Refusal). Printed (ChosenFor line) (text d) old new k) h.answers (record {
        track = track;
        chosen = h.chosen;
        bytes = f.bytes ∙ ap (λ (n : ℕ). text d track ++ drop n old) (sym f.end);
        size = f.end ∙ zero-add (length (text d track));
      })

  -- the text is within the buffer
  pub within : {Choice : List Cell → Type 0} {text : List Cell → List ℕ} → Printed Choice text old new k → k ≤ length new
  within {text = text} f = omega (arith, f.size, ap length f.bytes, length-append (text f.track) (drop k old))
