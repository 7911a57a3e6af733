-- Document 02, R-12: the edit session, which is an undo history: the cell count of a drawing and its last edits, oldest first.
use Rattle.std.specs.Prelude.{ℕ, ◌+◌, ◌-◌, ◌*◌, Bool, true, cond, ◌&&◌, List, [], ◌∷◌, ◌++◌, leb, length, take, drop, get_or, set, replicate}
use Rattle.grid.specs.declared.Cells.{Cells}
use Rattle.grid.specs.declared.Cell.{Cell}
use Rattle.detour.specs.declared.Kind.TheVariants as kind
use Rattle.detour.specs.declared.Side.TheVariants.{Right}
use Rattle.detour.specs.declared.Edit.{Edit}
use Rattle.detour.specs.Detour.{bulge_at, press_at, opposite}
use Rattle.session.specs.declared.Session.{Session}
use Rattle.session.specs.declared.Command.{Command}
use Rattle.session.specs.declared.Command.TheVariants.{Bulge, Press, TakeBack}

-- how many edits a session keeps
abbrev pub kept_edits : ℕ
kept_edits = 32

-- no edit
abbrev pub no_edit : Edit
no_edit = record { place = 0; kind = kind.Press; side = Right }

-- a new session has a given count and no edits
abbrev pub new_session : Cells → Session
new_session k = record { count = k; recorded = 0; edits = replicate kept_edits no_edit }

-- how many cells of a buffer of so many bytes are the session's list; none where it holds fewer than the count, or over 32 edits are claimed
abbrev pub list_cells : Session → ℕ → ℕ
list_cells s bytes = cond (leb (2 * s.count.0) bytes && leb s.recorded kept_edits) s.count.0 0

-- the bytes of the session's list, in front of a buffer
abbrev pub list_of : Session → List ℕ → List ℕ
list_of s buffer = take (2 * list_cells s (length buffer)) buffer

-- the newest recorded edit
abbrev pub newest : Session → Edit
newest s = get_or s.edits (s.recorded - 1) no_edit

-- what the command takes back, if it does, is recorded
abbrev pub ready : Command → Session → Bool
ready (Bulge k side) s = true
ready (Press k) s = true
ready TakeBack s = leb 1 s.recorded

-- the edit that a command makes of a list; taking back makes the opposite of the newest
abbrev pub meant : Command → Session → List Cell → Edit
meant (Bulge k side) s l = bulge_at k side
meant (Press k) s l = press_at k l
meant TakeBack s l = opposite (newest s)

-- the session with an edit recorded, for a list of n cells; when 32 are recorded the oldest is dropped
abbrev pub on_record : Edit → ℕ → Session → Session
on_record e n s = cond (leb kept_edits s.recorded)
    (record { count = record { 0 = n }; recorded = s.recorded; edits = drop 1 s.edits ++ (e ∷ []) })
    (record { count = record { 0 = n }; recorded = s.recorded + 1; edits = set s.edits s.recorded e })

-- the session with the newest edit off the record
abbrev pub off_record : ℕ → Session → Session
off_record n s = record { count = record { 0 = n }; recorded = s.recorded - 1; edits = s.edits }

-- the session after a command whose edit is made: an edit is recorded, taking back is not
abbrev pub changed : Command → Edit → ℕ → Session → Session
changed (Bulge k side) e n s = on_record e n s
changed (Press k) e n s = on_record e n s
changed TakeBack e n s = off_record n s
