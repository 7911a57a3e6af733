-- What Draw answers and leaves, from what its tests showed and what was drawn.
use Rattle.std.specs.Prelude.{Result, Ok}
use Prim.Native.Nat.{ℕ, ◌*◌, ◌≤◌}
use mathlib.Core.Path.{◌≡◌, refl, sym, ap, ◌∙◌, subst}
use mathlib.Core.Logic.{◌≢◌}
use mathlib.Core.List.{List, [], ◌∷◌}
use native.Mathlib.Omega.{arith}
use lib.ListN.{length, set}
use borrow.Author.Tests.{le-leb}
use Rattle.grid.specs.declared.Panel.{Panel}
use Rattle.grid.specs.declared.Cell.{Cell}
use Rattle.grid.specs.declared.Cells.{Cells}
use Rattle.grid.specs.declared.Refusal.{Refusal}
use Rattle.grid.specs.Panel.{OnPanel}
use Rattle.grid.specs.Bytes.{front}
use Rattle.grid.specs.Check.{check_order}
use Rattle.grid.proofs.Facts.{eq_same, ne_same}
use Rattle.grid.proofs.Tests.{cond_yes, cond_no, expect_yes, after_good, answer_good}
use Rattle.grid.proofs.Answers.{gives_cells}
use Rattle.grid.proofs.Track.{one_cell}
use Rattle.list.specs.List.{with_cells}
use Rattle.list.proofs.Cells.{put_first}
use Rattle.line.specs.Drawn.{written}
use Rattle.line.proofs.Drawn.{written_front, written_behind}
use Rattle.count.specs.Order.{order_count}
use Rattle.count.specs.Longest.{NoLonger, Longest}
use Rattle.count.proofs.Terminals.{none_longer}
use Rattle.cold.specs.Cold.{StaysCold}
use Rattle.cold.proofs.Theorem.{stays_cold}
use Rattle.draw.specs.Track.{track_between, drawn_track}
use Rattle.draw.specs.Draw.{draw_check, LongestAtFront, Draws, draw_buffer}
use Rattle.draw.proofs.Track.{drawn_track_lem, length_drawn}

-- ---- the check

module _ (p : Panel) (s t : Cell) (size : ℕ) where
  pub enough : {k : ℕ} → check_order p s t ≡ Ok tt → k ≡ order_count p s t → 2 * k ≤ size → draw_check p s t size ≡ Ok tt
  enough e q h = sym (after_good _ e (expect_yes _ _ (le-leb (2 * order_count p s t) size (omega arith)) refl))

-- ---- what was drawn

module _ (m n : ℕ) (s t : Cell) (old : List ℕ) {new : List ℕ} where
  -- equal terminals: the one cell
  pub spot_drawn : s ≡ t → 2 ≤ length old → new ≡ set (set old 0 s.x) 1 s.y → new ≡ with_cells (drawn_track m n s t) old
  unfolding drawn_track
  spot_drawn e room h = h ∙ put_first old s room ∙ ap (λ (l : List Cell). with_cells l old) (cond_yes _ _ (eq_same e) refl)

  -- different ones: the track between them
  pub two_drawn : s ≢ t → new ≡ with_cells (track_between m n s t) old → new ≡ with_cells (drawn_track m n s t) old
  unfolding drawn_track
  two_drawn d h = h ∙ ap (λ (l : List Cell). with_cells l old) (cond_no _ _ (ne_same s t d) refl)

-- that track at the front is a longest one
pub at_front : {p : Panel} {s t : Cell} {k : ℕ} {old new : List ℕ} → k ≡ order_count p s t → OnPanel p s → OnPanel p t
    → new ≡ with_cells (drawn_track p.width p.height s t) old → LongestAtFront p s t k old new
at_front {p} {s} {t} {k} {old} {new} q os ot w =
    let l = drawn_track p.width p.height s t in
    let track = drawn_track_lem p s t os ot in
    let size = length_drawn p s t os ot in
    let e : length l ≡ k = size ∙ sym q in
    let v : new ≡ written l k old = w ∙ ap (λ (n : ℕ). written l n old) e in
    let there = sym (written_front l old e v) in
    let longest : Longest p s t k l = record { size = e; track = track; none_longer = subst (NoLonger p s t) (sym q) (none_longer p s t) } in
    record {
      longest = subst (Longest p s t k) there longest;
      cold = subst (StaysCold p s t) there (stays_cold p s t track size);
      behind = written_behind l old e v;
    }

-- ---- both promises of the call

abbrev Promised : Panel → Cell → Cell → List ℕ → List ℕ → Result Cells Refusal → Type 0
Promised p s t old new r = Draws p s t old new r × (new ≡ draw_buffer p s t old)

module _ {p : Panel} {s t : Cell} {old new : List ℕ} where
  pub draws : {k : Cells} → draw_check p s t (length old) ≡ Ok tt → k.0 ≡ order_count p s t → OnPanel p s → OnPanel p t
      → new ≡ with_cells (drawn_track p.width p.height s t) old → Promised p s t old new (Ok k)
  draws e q os ot w = (
    record { gives = gives_cells _ _ (answer_good _ _ e (λ i. Ok (record { 0 = q i }))); leaves = at_front q os ot w },
    answer_good _ _ e w,
  )

-- between equal terminals the property leaves no choice: that one cell is at the front
pub spot_at_front : {p : Panel} {s : Cell} {k : ℕ} {old new : List ℕ} → LongestAtFront p s s k old new → front k new ≡ s ∷ []
spot_at_front f = one_cell f.longest.track
