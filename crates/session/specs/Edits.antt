-- Document 02, R-12, "Editing a drawing": what the call answers and what it leaves in session, list and scratch, for every input.
use Rattle.std.specs.Prelude.{Result, Ok}
use Rattle.grid.specs.declared.Cells.{Cells}
use Rattle.std.specs.Prelude.{ℕ, ◌*◌, ◌≡◌, List, leb, length}
use Rattle.grid.specs.declared.Panel.{Panel}
use Rattle.grid.specs.declared.Cell.{Cell}
use Rattle.grid.specs.declared.Refusal.{Refusal}
use Rattle.grid.specs.declared.Refusal.TheVariants.{ShortBuffer, NoSuchEdit, NothingRecorded}
use Rattle.grid.specs.Check.{Check}
use Rattle.grid.specs.Check.{expect, after, answer}
use Rattle.grid.specs.Answer.{GivesCells}
use Rattle.grid.specs.Bytes.{cells_in}
use Rattle.judge.specs.Judge.{judge_check, scratch_after}
use Rattle.detour.specs.declared.Edit.{Edit}
use Rattle.detour.specs.Detour.{edited, can_edit, with_zeros}
use Rattle.session.specs.declared.Session.{Session}
use Rattle.session.specs.declared.Command.{Command}
use Rattle.session.specs.Session.{list_of, ready, meant, changed}

-- the cells of the session's list
abbrev pub session_cells : Session → List ℕ → List Cell
session_cells s buffer = cells_in (list_of s buffer)

-- the edit that the command makes
abbrev pub edit_of : Command → Session → List ℕ → Edit
edit_of c s buffer = meant c s (session_cells s buffer)

-- 22, the edit of a list cannot be made; 5, the buffer is too short for the longer list
abbrev pub edit_test : Panel → Edit → List Cell → ℕ → Check
edit_test p e l bytes = expect (can_edit p e l) NoSuchEdit (expect (leb (2 * length (edited e l)) bytes) ShortBuffer (Ok tt))

-- Judge's refusals of the session's list, whose 6 is also given where the buffer holds fewer cells or over 32 edits are claimed; 23, nothing to
-- take back; 22; 5
abbrev pub edit_check : Panel → Cell → Cell → Command → Session → List ℕ → ℕ → Check
edit_check p a z c s buffer room =
    after (judge_check p a z (list_of s buffer) room)
    (expect (ready c s) NothingRecorded
    (edit_test p (edit_of c s buffer) (session_cells s buffer) (length buffer)))

-- the session behind a check: as it was where refused
abbrev pub session_after : Check → Command → Edit → List Cell → Session → Session
session_after k c e l s = answer k (λ r. s) (changed c e (length (edited e l)) s)

-- the buffer behind a check: as it was where refused, else the new list in front and zeros behind
abbrev pub buffer_after : Check → Edit → List Cell → List ℕ → List ℕ
buffer_after k e l buffer = answer k (λ r. buffer) (with_zeros (edited e l) (length buffer))

-- what an edit of a list leaves behind a check: the new count or the refusal, session and buffer, which were s and buffer
pub record EditLeaves (k : Check) (c : Command) (e : Edit) (l : List Cell) (s : Session) (buffer : List ℕ) (s' : Session) (buffer' : List ℕ)
    (r : Result Cells Refusal) : Type 0 where
  pub gives : GivesCells k (length (edited e l)) r
  pub session : s' ≡ session_after k c e l s
  pub list : buffer' ≡ buffer_after k e l buffer

-- the promise of the call: answer, session and buffer, and scratch, which was old and is new
pub record Edits (p : Panel) (a z : Cell) (c : Command) (s : Session) (buffer old : List ℕ) (s' : Session) (buffer' new : List ℕ)
    (r : Result Cells Refusal) : Type 0 where
  pub leaves : EditLeaves (edit_check p a z c s buffer (length old)) c (edit_of c s buffer) (session_cells s buffer) s buffer s' buffer' r
  pub scratch : new ≡ scratch_after p a z (list_of s buffer) old
