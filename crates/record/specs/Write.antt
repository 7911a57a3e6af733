-- Document 01, "Write": its refusals in order, its answer and the final content of the lent buffer.
use Rattle.std.specs.Prelude.{ℕ, ◌+◌, ◌≡◌, List, [], ◌∷◌, ◌++◌, length, take, drop, leb, Result, Ok}
use Rattle.grid.specs.declared.Panel.{Panel}
use Rattle.grid.specs.declared.Cell.{Cell}
use Rattle.grid.specs.declared.Refusal.{Refusal}
use Rattle.grid.specs.declared.Refusal.TheVariants.{ShortBuffer}
use Rattle.grid.specs.Bytes.{cells_in}
use Rattle.grid.specs.Check.{Check, expect, after, answer}
use Rattle.grid.specs.Answer.{bytes_answer, bytes_values, GivesBytes}
use Rattle.list.specs.Check.{check_list}
use Rattle.step_letters.specs.Letters.{letters_from, steps_of}
use Rattle.record_head.specs.Head.{head_of, head_length}

-- the record of a list of cells on a panel: the head, then one letter for each step
abbrev pub record_of : Panel → List Cell → List ℕ
record_of p [] = []
record_of p (s ∷ l) = head_of p s (length l) ++ letters_from s l

-- its length: 10 bytes plus one for each step
abbrev pub record_length : List Cell → ℕ
record_length l = head_length + steps_of l

-- 1; 18; 6; 7; 8; 15; 5, the buffer is shorter than the record
abbrev pub check_write : Panel → List ℕ → List ℕ → Check
check_write p list out =
    after (check_list p list) (expect (leb (record_length (cells_in list)) (length out)) ShortBuffer (Ok tt))

-- the bytes written
abbrev pub write_answer : Panel → List ℕ → List ℕ → Result ℕ Refusal
write_answer p list out = bytes_answer (check_write p list out) (record_length (cells_in list))

-- the record, and the bytes behind it as they were; a refusal changes nothing
abbrev pub write_buffer : Panel → List ℕ → List ℕ → List ℕ
write_buffer p list out =
    answer (check_write p list out) (λ r. out) (record_of p (cells_in list) ++ drop (record_length (cells_in list)) out)

-- what Write promises of its answer r and of the buffer, old before the call and new after it
pub record Writes (p : Panel) (list old new : List ℕ) (r : Result ℕ Refusal) : Type 0 where
  pub gives : GivesBytes (check_write p list old) (record_length (cells_in list)) r
  pub buffer : new ≡ write_buffer p list old

-- what Write makes: the bytes that it says it has written
abbrev pub record_made : Panel → List ℕ → List ℕ → List ℕ
record_made p list out = take (bytes_values (write_answer p list out)).bytes (write_buffer p list out)
