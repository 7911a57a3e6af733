-- Document 01, "Operations": Ring writes a longest closed track from (1, 1).
use Rattle.grid.specs.declared.Cells.{Cells}
use Rattle.grid.specs.declared.Refusal.{Refusal}
use Rattle.std.specs.Prelude.{Result, Ok, Err, ℕ, ◌-◌, ◌*◌, ◌≤◌, ◌≡◌, Bool, cond, ◌&&◌, List, leb, length, drop}
use Rattle.grid.specs.declared.Panel.{Panel}
use Rattle.grid.specs.declared.Cell.{Cell}
use Rattle.grid.specs.declared.Refusal.TheVariants.{OneWide, ShortBuffer}
use Rattle.grid.specs.Check.{Check}
use Rattle.grid.specs.Panel.{cell, area}
use Rattle.grid.specs.Bytes.{front}
use Rattle.grid.specs.Check.{expect, after, check_panel}
use Rattle.grid.specs.Answer.{GivesCells}
use Rattle.count.specs.Count.{odd}
use Rattle.count.specs.Longest.{Closed}

-- no side is 1
abbrev pub two_wide : Panel → Bool
two_wide p = leb 2 p.width && leb 2 p.height

-- mn cells, or mn − 1 if mn is odd
abbrev pub ring_count : Panel → ℕ
ring_count p = cond (odd (area p)) (area p - 1) (area p)

-- 1; 18; 13, a side is 1; 5, the buffer is shorter than 2 bytes for each cell of the count
abbrev pub ring_check : Panel → ℕ → Check
ring_check p size = after (check_panel p) (expect (two_wide p) OneWide (expect (leb (2 * ring_count p) size) ShortBuffer (Ok tt)))

-- the list is a closed track from (1, 1) with k cells, and no closed track of the panel has more
pub record LongestClosed (p : Panel) (k : ℕ) (l : List Cell) : Type 0 where
  pub closed : Closed p (cell 1 1) l
  pub size : length l ≡ k
  pub longest : (s : Cell) (m : List Cell) → Closed p s m → length m ≤ k

-- what the call leaves in the buffer: refused, all as it was; else such a track in front, and behind it the bytes that were there
abbrev pub Leaves : Panel → Result Cells Refusal → List ℕ → List ℕ → Type 0
Leaves p (Err r) old new = new ≡ old
Leaves p (Ok k) old new = LongestClosed p k.0 (front k.0 new) × (drop (2 * k.0) new ≡ drop (2 * k.0) old)

-- Ring's promise, for the buffer before and after the call
pub record Rings (p : Panel) (old new : List ℕ) (r : Result Cells Refusal) : Type 0 where
  pub gives : GivesCells (ring_check p (length old)) (ring_count p) r
  pub leaves : Leaves p r old new
