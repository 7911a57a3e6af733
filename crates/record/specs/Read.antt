-- Document 01, "Read" and "Letters": the refusals in order, the answers and the final content of the lent buffer.
use Rattle.std.specs.Prelude.{ℕ, ◌+◌, ◌*◌, ◌≡◌, List, [], length, take, leb, Result, Ok, Err}
use Rattle.std.specs.Borrow.{Bor}
use Rattle.grid.specs.declared.Panel.{Panel}
use Rattle.grid.specs.declared.Cell.{Cell}
use Rattle.grid.specs.declared.Cells.{Cells}
use Rattle.grid.specs.declared.Refusal.{Refusal}
use Rattle.grid.specs.declared.Refusal.TheVariants.{CellOff, ShortBuffer, UnknownByte}
use Rattle.grid.specs.Panel.{panel}
use Rattle.grid.specs.Refusal.{number}
use Rattle.grid.specs.Bytes.{PartOf}
use Rattle.grid.specs.Check.{Check, expect, after, answer}
use Rattle.grid.specs.Answer.{refusal_number, given, cells_answer}
use Rattle.list.specs.List.{all_on, with_cells}
use Rattle.step_letters.specs.Letters.{all_known, walk_from}
use Rattle.record_head.specs.Head.{head_length, panel_in, entry_in, steps_in, letters_in, check_head}
use Rattle.record.specs.declared.Recorded.{Recorded}

-- the cells of the record
abbrev pub cells_read : List ℕ → List Cell
cells_read f = walk_from (entry_in f) (letters_in f)

-- 16, some byte among the letters is unknown
abbrev pub check_known : List ℕ → Check
check_known l = expect (all_known l) UnknownByte (Ok tt)

-- 7, a step leaves the panel
abbrev pub check_steps : Panel → Cell → List ℕ → Check
check_steps p s l = expect (all_on p (walk_from s l)) CellOff (Ok tt)

-- 16; 7
abbrev pub check_letters : Panel → Cell → List ℕ → Check
check_letters p s l = after (check_known l) (check_steps p s l)

-- the refusals of Letters: 14; 17; 1; 18; 2; 15; 17; 16; 7
abbrev pub check_record : List ℕ → Check
check_record f = after (check_head f) (check_letters (panel_in f) (entry_in f) (letters_in f))

-- a refusal of Letters, or the record's cell count
abbrev pub record_cells : List ℕ → Result Cells Refusal
record_cells f = cells_answer (check_record f) (length (cells_read f))

-- the refusals of Read: as Letters; 5, the buffer is too short for the list
abbrev pub check_read : List ℕ → List ℕ → Check
check_read f list = after (check_record f) (expect (leb (2 * length (cells_read f)) (length list)) ShortBuffer (Ok tt))

-- the panel, so many cells and a record of so many bytes
abbrev pub recorded : Panel → ℕ → ℕ → Recorded
recorded p n k = record { panel = p; cells = record { 0 = n }; bytes = k }

-- the panel, the cell count and the record length
abbrev pub read_answer : List ℕ → List ℕ → Result Recorded Refusal
read_answer f list =
    answer (check_read f list) Err (Ok (recorded (panel_in f) (length (cells_read f)) (head_length + steps_in f)))

-- the list, and the bytes behind it as they were; a refusal changes nothing
abbrev pub read_buffer : List ℕ → List ℕ → List ℕ
read_buffer f list = answer (check_read f list) (λ r. list) (with_cells (cells_read f) list)

-- number, panel, cell count and record length of an answer
pub record ReadValues : Type 0 where
  pub refusal : ℕ
  pub panel : Panel
  pub cells : Cells
  pub length : ℕ

abbrev pub read_values : Result Recorded Refusal → ReadValues
read_values (Err r) = record { refusal = number r; panel = panel 0 0 0; cells = record { 0 = 0 }; length = 0 }
read_values (Ok k) = record { refusal = 0; panel = k.panel; cells = k.cells; length = k.bytes }

-- what Read promises of its answer r and of the buffer, old before the call and new after it
pub record Reads (file old new : List ℕ) (r : Result Recorded Refusal) : Type 0 where
  pub answers : r ≡ read_answer file old
  pub number : (read_values r).refusal ≡ refusal_number (check_read file old)
  pub width : (read_values r).panel.width ≡ given (check_read file old) (panel_in file).width
  pub height : (read_values r).panel.height ≡ given (check_read file old) (panel_in file).height
  pub pitch : (read_values r).panel.pitch ≡ given (check_read file old) (panel_in file).pitch
  pub count : (read_values r).cells.0 ≡ given (check_read file old) (length (cells_read file))
  pub bytes : (read_values r).length ≡ given (check_read file old) (head_length + steps_in file)
  pub buffer : new ≡ read_buffer file old

-- the list read: x and y for as many cells as Read says
abbrev pub list_read : List ℕ → List ℕ → List ℕ
list_read f list = take (2 * (read_values (read_answer f list)).cells.0) (read_buffer f list)

-- the letters; empty if refused
abbrev pub letters_answer : List ℕ → List ℕ
letters_answer f = answer (check_record f) (λ r. []) (letters_in f)

-- where the stretch with the letters begins: at the head's end; at the front if refused
abbrev pub letters_place : List ℕ → ℕ
letters_place f = given (check_record f) head_length

-- what Letters promises of the stretch of the file that it hands back
pub record Lettered (file letters : Bor (List ℕ)) : Type 0 where
  pub part : PartOf file (letters_place file.now) (letters_answer file.now) letters
