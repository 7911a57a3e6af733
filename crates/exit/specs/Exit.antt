-- Document 02, R-5: Exit gives the first cell, reading rows from the top and each from the left, that is not the entry and to which some track has at
-- least the wanted number of cells. A refusal gives 0 for all.
use Rattle.std.specs.Prelude.{ℕ, ◌≡◌, Bool, true, false, cond, not, ◌&&◌, List, [], ◌∷◌, leb, Option, Some, None, Result, Ok, Err}
use Rattle.grid.specs.declared.Panel.{Panel}
use Rattle.grid.specs.declared.Cell.{Cell}
use Rattle.grid.specs.declared.Cells.{Cells}
use Rattle.grid.specs.declared.Refusal.{Refusal}
use Rattle.grid.specs.declared.Refusal.TheVariants.{NoExit}
use Rattle.grid.specs.Panel.{cell, same_cell}
use Rattle.grid.specs.Reading.{reading}
use Rattle.grid.specs.Refusal.{number}
use Rattle.grid.specs.Check.{Check, expect, after, check_entry, answer}
use Rattle.grid.specs.Answer.{refusal_number}
use Rattle.count.specs.Count.{count}

-- not the entry, and the count of a track to it is at least the wanted one
abbrev pub fits : Panel → Cell → Cells → Cell → Bool
fits p s w c = not (same_cell s c) && leb w.0 (count p s c)

-- whether a cell is found
abbrev pub is_found : Option Cell → Bool
is_found (Some c) = true
is_found None = false

-- the cell found, (0, 0) if none is
abbrev pub cell_found : Option Cell → Cell
cell_found (Some c) = c
cell_found None = cell 0 0

-- the first cell of the list that passes the test (find)
abbrev pub first : (Cell → Bool) → List Cell → Option Cell
first f [] = None
first f (c ∷ l) = cond (f c) (Some c) (first f l)

-- the first cell of the panel that fits
abbrev pub first_fit : Panel → Cell → Cells → Option Cell
first_fit p s w = first (fits p s w) (reading p)

-- 1; 18; 2; then 12, no cell fits
abbrev pub exit_check : Panel → Cell → Cells → Check
exit_check p s w = after (check_entry p s) (expect (is_found (first_fit p s w)) NoExit (Ok tt))

-- the answer: the refusal of the check, or the first cell that fits
abbrev pub exit_of : Panel → Cell → Cells → Result Cell Refusal
exit_of p s w = answer (exit_check p s w) Err (Ok (cell_found (first_fit p s w)))

-- number and cell of an answer
pub record ExitValues : Type 0 where
  pub refusal : ℕ
  pub cell : Cell

abbrev pub exit_values : Result Cell Refusal → ExitValues
exit_values (Err r) = record { refusal = number r; cell = cell 0 0 }
exit_values (Ok c) = record { refusal = 0; cell = c }

-- what Exit promises
pub record Exits (p : Panel) (s : Cell) (w : Cells) (r : Result Cell Refusal) : Type 0 where
  pub answers : r ≡ exit_of p s w
  pub number : (exit_values r).refusal ≡ refusal_number (exit_check p s w)
  pub cell : (exit_values r).cell ≡ answer (exit_check p s w) (λ x. cell 0 0) (cell_found (first_fit p s w))
