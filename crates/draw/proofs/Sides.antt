-- Within its range the pitch changes neither what Draw promises, nor what it answers, nor the cells that it draws.
use Rattle.std.specs.Prelude.{Result, Ok, Err}
use Rattle.grid.specs.declared.Cells.{Cells}
use Rattle.grid.specs.declared.Refusal.{Refusal}
use Prim.Native.Nat.{ℕ, ◌*◌}
use mathlib.Core.Path.{◌≡◌, sym, ap, ◌∙◌, subst₂}
use mathlib.Core.Bool.{true}
use mathlib.Core.List.{List}
use lib.Dec.{leb}
use lib.ListN.{length}
use Rattle.grid.specs.declared.Cell.{Cell}
use Rattle.grid.specs.Check.{Check}
use Rattle.grid.specs.declared.Refusal.TheVariants.{ShortBuffer}
use Rattle.grid.specs.Panel.{panel, good_pitch}
use Rattle.grid.specs.Check.{after, expect, answer}
use Rattle.grid.specs.Answer.{cells_answer, GivesCells}
use Rattle.grid.specs.Bytes.{front}
use Rattle.grid.proofs.Sides.{order_same}
use Rattle.list.specs.List.{with_cells}
use Rattle.count.proofs.Sides.{order_count_same, longest_same}
use Rattle.cold.proofs.Theorem.{cold_same}
use Rattle.draw.specs.Track.{drawn_track}
use Rattle.draw.specs.Draw.{draw_check, Leaves, Draws, draw_buffer}

module _ (m n a b : ℕ) (u : good_pitch (panel m n a) ≡ true) (v : good_pitch (panel m n b) ≡ true) (s t : Cell) where
  check_same : (size : ℕ) → draw_check (panel m n a) s t size ≡ draw_check (panel m n b) s t size
  check_same size = λ i. after (order_same m n a b u v s t i) (expect (leb (2 * order_count_same m n a b s t i) size) ShortBuffer (Ok tt))

  leaves_same : (old new : List ℕ) (r : Result Cells Refusal) → Leaves (panel m n a) s t old new r → Leaves (panel m n b) s t old new r
  leaves_same old new (Err r) e = e
  leaves_same old new (Ok k) f = record {
    longest = longest_same f.longest;
    cold = cold_same m n a b s t (front k.0 new) f.cold;
    behind = f.behind;
  }

  -- what one call promises is what the other does
  pub draws_same : {old new : List ℕ} {r : Result Cells Refusal} → Draws (panel m n a) s t old new r → Draws (panel m n b) s t old new r
  draws_same {old} {new} {r} d = record {
    gives = subst₂ (λ (c : Check) (k : ℕ). GivesCells c k r) (check_same (length old)) (order_count_same m n a b s t) d.gives;
    leaves = leaves_same old new r d.leaves;
  }

  -- and what it draws is what the other draws
  pub buffer_same : (old : List ℕ) → draw_buffer (panel m n a) s t old ≡ draw_buffer (panel m n b) s t old
  buffer_same old = ap (λ (c : Check). answer c (λ r. old) (with_cells (drawn_track m n s t) old)) (check_same (length old))

  -- two calls with equally long buffers answer the same
  pub answer_same : {old new old' new' : List ℕ} {r r' : Result Cells Refusal} → length old ≡ length old'
      → Draws (panel m n a) s t old new r → Draws (panel m n b) s t old' new' r' → r ≡ r'
  answer_same e d d' = d.gives.answers ∙ (λ i. cells_answer (check_same (e i) i) (order_count_same m n a b s t i)) ∙ sym d'.gives.answers

  -- with equal buffers they also leave the same
  pub draw_same : (old : List ℕ) {new new' : List ℕ} {r r' : Result Cells Refusal}
      → Draws (panel m n a) s t old new r × (new ≡ draw_buffer (panel m n a) s t old)
      → Draws (panel m n b) s t old new' r' × (new' ≡ draw_buffer (panel m n b) s t old)
      → (r ≡ r') × (new ≡ new')
  draw_same old (d, w) (d', w') = (answer_same (λ i. length old) d d', w ∙ buffer_same old ∙ sym w')
