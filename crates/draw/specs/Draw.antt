-- Document 01, "Operations", and document 02, R-10: Draw writes a longest track at the front of a lent buffer and gives its cell count, or refuses;
-- the cells that the track leaves uncovered are known by class and colour.
use Rattle.grid.specs.declared.Cells.{Cells}
use Rattle.grid.specs.declared.Refusal.{Refusal}
use Rattle.std.specs.Prelude.{ℕ, ◌*◌, ◌≡◌, ◌≤◌, List, Result, Ok, Err, leb, length, drop}
use Rattle.grid.specs.declared.Panel.{Panel}
use Rattle.grid.specs.declared.Cell.{Cell}
use Rattle.grid.specs.Check.{Check}
use Rattle.grid.specs.declared.Refusal.TheVariants.{ShortBuffer}
use Rattle.grid.specs.Panel.{GoodSides, OnPanel}
use Rattle.grid.specs.Bytes.{front}
use Rattle.grid.specs.Check.{check_order, after, expect, answer}
use Rattle.grid.specs.Answer.{GivesCells}
use Rattle.count.specs.Order.{order_count}
use Rattle.count.specs.Longest.{Longest}
use Rattle.list.specs.List.{with_cells}
use Rattle.cold.specs.Cold.{StaysCold}
use Rattle.draw.specs.Track.{drawn_track}

-- what the code that draws asks for: good sides, terminals on the panel, and room for the count's cells
pub record Roomy (p : Panel) (s t : Cell) (buf : List ℕ) : Type 0 where
  pub sides : GoodSides p
  pub entry : OnPanel p s
  pub exit : OnPanel p t
  pub room : 2 * order_count p s t ≤ length buf

-- refused as Bound, then 5: the buffer is shorter than 2 bytes for each cell of the count
abbrev pub draw_check : Panel → Cell → Cell → ℕ → Check
draw_check p s t size = after (check_order p s t) (expect (leb (2 * order_count p s t) size) ShortBuffer (Ok tt))

-- the k cells read from the front of the buffer after the call are a track from s to t, every list of cells that is such a track has at most k, the
-- cells that the track leaves uncovered are as document 02, R-10, says, and the bytes behind the k cells are the old ones
pub record LongestAtFront (p : Panel) (s t : Cell) (k : ℕ) (old new : List ℕ) : Type 0 where
  pub longest : Longest p s t k (front k new)
  pub cold : StaysCold p s t (front k new)
  pub behind : drop (2 * k) new ≡ drop (2 * k) old

-- a refusal changes no byte
abbrev pub Leaves : Panel → Cell → Cell → List ℕ → List ℕ → Result Cells Refusal → Type 0
Leaves p s t old new (Err r) = new ≡ old
Leaves p s t old new (Ok k) = LongestAtFront p s t k.0 old new

-- Draw's promise: the count, or what the check refuses; and the buffer begins with a longest track, which leaves what R-10 says, and is otherwise as
-- it was
pub record Draws (p : Panel) (s t : Cell) (old new : List ℕ) (r : Result Cells Refusal) : Type 0 where
  pub gives : GivesCells (draw_check p s t (length old)) (order_count p s t) r
  pub leaves : Leaves p s t old new r

-- which longest track it is: the buffer after the call, as it was where the check refuses, else with that track at its front.
-- A pitch in its range changes nothing of it (proofs/Sides.antt)
abbrev pub draw_buffer : Panel → Cell → Cell → List ℕ → List ℕ
draw_buffer p s t old = answer (draw_check p s t (length old)) (λ r. old) (with_cells (drawn_track p.width p.height s t) old)
