-- Document 02, R-12: runs of edits and takings back on a panel, between two ends and with scratch of so many bytes.
use Rattle.std.specs.Prelude.{Ok}
use Rattle.std.specs.Prelude.{ℕ, zero, suc, ◌≡◌, Bool, true, false, List, length, take}
use Rattle.grid.specs.declared.Panel.{Panel}
use Rattle.grid.specs.declared.Cell.{Cell}
use Rattle.grid.specs.Check.{Check}
use Rattle.judge.specs.Judge.{judge_check}
use Rattle.detour.specs.declared.Edit.{Edit}
use Rattle.session.specs.declared.Session.{Session}
use Rattle.session.specs.declared.Command.{Command}
use Rattle.session.specs.declared.Command.TheVariants.{Bulge, Press, TakeBack}
use Rattle.session.specs.Session.{kept_edits, list_of}
use Rattle.session.specs.Edits.{session_cells, edit_of, edit_check, session_after, buffer_after}

-- what the caller has in hand: the session and the buffer with the list
pub record Desk : Type 0 where
  pub session : Session
  pub buffer : List ℕ

-- the cells of the drawing
abbrev pub drawing : Desk → List Cell
drawing d = session_cells d.session d.buffer

-- the recorded edits, oldest first
abbrev pub recorded_edits : Desk → List Edit
recorded_edits d = take d.session.recorded d.session.edits

-- the session's array has its 32 places, as every array of its type has
abbrev pub Whole : Desk → Type 0
Whole d = length d.session.edits ≡ kept_edits

-- a command that is an edit: a bulge or a press
abbrev pub is_edit : Command → Bool
is_edit (Bulge k side) = true
is_edit (Press k) = true
is_edit TakeBack = false

module _ (p : Panel) (a z : Cell) (room : ℕ) where
  -- Judge accepts the list
  abbrev pub Judged : Desk → Type 0
  Judged d = judge_check p a z (list_of d.session d.buffer) room ≡ Ok tt

  abbrev pub desk_check : Command → Desk → Check
  desk_check c d = edit_check p a z c d.session d.buffer room

  -- the call accepts the command
  abbrev pub Accepted : Command → Desk → Type 0
  Accepted c d = desk_check c d ≡ Ok tt

  -- what the call leaves in hand
  abbrev pub desk_after : Command → Desk → Desk
  desk_after c d =
      let e = edit_of c d.session d.buffer in
      record { session = session_after (desk_check c d) c e (drawing d) d.session; buffer = buffer_after (desk_check c d) e (drawing d) d.buffer }

  -- any run of commands, accepted or refused
  pub data Run : Desk → Desk → Type 0 where
    none : {d : Desk} → Run d d
    more : {d f : Desk} → Run d f → (c : Command) → Run d (desk_after c f)

  -- n accepted edits, one behind the other
  pub data EditRun : ℕ → Desk → Desk → Type 0 where
    none : {d : Desk} → EditRun zero d d
    more : {n : ℕ} {d f : Desk} → EditRun n d f → (c : Command) → is_edit c ≡ true → Accepted c f → EditRun (suc n) d (desk_after c f)

  -- n accepted takings back, one behind the other
  pub data BackRun : ℕ → Desk → Desk → Type 0 where
    none : {d : Desk} → BackRun zero d d
    more : {n : ℕ} {d f : Desk} → Accepted TakeBack d → BackRun n (desk_after TakeBack d) f → BackRun (suc n) d f
