-- Document 01, "Judge": what the call answers and what it leaves in scratch, for every input.
use Rattle.std.specs.Prelude.{Result, Ok}
use Rattle.grid.specs.declared.Cells.{Cells}
use Rattle.std.specs.Prelude.{ℕ, ◌≡◌, List, leb, length}
use Rattle.grid.specs.declared.Panel.{Panel}
use Rattle.grid.specs.declared.Cell.{Cell}
use Rattle.grid.specs.declared.Refusal.{Refusal}
use Rattle.grid.specs.declared.Refusal.TheVariants.{ListLength, ShortBuffer, Repeated, WrongEnds}
use Rattle.grid.specs.Check.{Check}
use Rattle.grid.specs.Panel.{area}
use Rattle.grid.specs.Check.{expect, after, answer, check_order}
use Rattle.grid.specs.Answer.{cells_answer, GivesCells}
use Rattle.grid.specs.Bytes.{cells_in}
use Rattle.list.specs.List.{whole_cells, none_twice, runs}
use Rattle.list.specs.Check.{check_walk}
use Rattle.scratch.specs.Scratch.{cleared}

-- the refusals tested before 7: 1; 18; 2; 3; 6, the list is empty or has an odd number of bytes; 5, scratch is shorter than mn
abbrev pub sizes_check : Panel → Cell → Cell → ℕ → ℕ → Check
sizes_check p s t bytes room =
    after (check_order p s t)
    (expect (whole_cells bytes) ListLength
    (expect (leb (area p) room) ShortBuffer (Ok tt)))

-- the refusals of the cells: 7, some cell is off the panel; 8, some two successive cells are not neighbours; 9, some cell stands twice; 11, the
-- first cell is not the entry or the last not the exit
abbrev pub cells_check : Panel → Cell → Cell → List Cell → Check
cells_check p s t l = after (check_walk p l) (expect (none_twice l) Repeated (expect (runs s t l) WrongEnds (Ok tt)))

-- all refusals, for a list of bytes and scratch of so many bytes
abbrev pub judge_check : Panel → Cell → Cell → List ℕ → ℕ → Check
judge_check p s t list room = after (sizes_check p s t (length list) room) (cells_check p s t (cells_in list))

-- the answer: the refusal, or the number of cells
abbrev pub judge_of : Panel → Cell → Cell → List ℕ → ℕ → Result Cells Refusal
judge_of p s t list room = cells_answer (judge_check p s t list room) (length (cells_in list))

-- scratch after the call: untouched where a refusal tested before 7 is met, else its first mn bytes are 0 and the rest untouched
abbrev pub scratch_after : Panel → Cell → Cell → List ℕ → List ℕ → List ℕ
scratch_after p s t list old = answer (sizes_check p s t (length list) (length old)) (λ r. old) (cleared p old)

-- Judge's promise: the list's number of cells or the refusal, and scratch, which was old and is new
pub record Judges (p : Panel) (s t : Cell) (list old new : List ℕ) (r : Result Cells Refusal) : Type 0 where
  pub gives : GivesCells (judge_check p s t list (length old)) (length (cells_in list)) r
  pub scratch : new ≡ scratch_after p s t list old
