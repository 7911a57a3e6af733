-- Computed: which refusal comes first, what is left of session and buffer, and what is recorded. A wrong definition shows here.
use Rattle.std.specs.Prelude.{Ok, Err}
use Prim.Native.Nat.{ℕ}
use mathlib.Core.Path.{◌≡◌, refl}
use mathlib.Core.List.{List, [], ◌∷◌, ◌++◌}
use lib.ListN.{replicate}
use Rattle.grid.specs.Check.{Check}
use Rattle.grid.specs.declared.Refusal.TheVariants.{ListLength, ShortBuffer, NoSuchEdit, NothingRecorded}
use Rattle.grid.specs.Panel.{panel, cell, apart, dist}
use Rattle.detour.specs.declared.Kind.TheVariants as kind
use Rattle.detour.specs.declared.Side.TheVariants.{Left, Right}
use Rattle.detour.specs.declared.Edit.{Edit}
use Rattle.detour.specs.Detour.{bulge_at}
use Rattle.session.specs.declared.Session.{Session}
use Rattle.session.specs.declared.Command.{Command}
use Rattle.session.specs.declared.Command.TheVariants.{Bulge, Press, TakeBack}
use Rattle.session.specs.Session.{no_edit, new_session, on_record}
use Rattle.session.specs.Edits.{session_cells, edit_of, edit_check, session_after, buffer_after}

-- a session with a count of k, n edits recorded, and one edit in front of 31 others
abbrev session : ℕ → ℕ → Edit → Session
session k n e = record { count = record { 0 = k }; recorded = n; edits = e ∷ replicate 31 no_edit }

abbrev new : Session
new = session 2 0 no_edit

-- a new session has the count that is given, and nothing recorded
pub new_shown : new_session (record { 0 = 2 }) ≡ new
new_shown = refl

-- ---- on a panel of 2 by 2, from (1, 1) to (2, 1)

-- straight, in a buffer that it fills, and in a longer one; and with the detour right of the way, downward
abbrev short : List ℕ
short = 1 ∷ 1 ∷ 2 ∷ 1 ∷ []

abbrev long : List ℕ
long = 1 ∷ 1 ∷ 2 ∷ 1 ∷ 7 ∷ 7 ∷ 7 ∷ 7 ∷ []

abbrev bulged : List ℕ
bulged = 1 ∷ 1 ∷ 1 ∷ 2 ∷ 2 ∷ 2 ∷ 2 ∷ 1 ∷ []

abbrev checked : Command → Session → List ℕ → Check
checked c s buffer = edit_check (panel 2 2 4000) (cell 1 1) (cell 2 1) c s buffer 4

-- right of the way there is room for the bulge, left of it not: 22, also where the buffer is too short; 5 where it is only that
pub edits_shown : (checked (Bulge 1 Right) new long ≡ Ok tt)
    × (checked (Press 1) (session 4 0 no_edit) bulged ≡ Ok tt)
    × (checked (Bulge 1 Left) new long ≡ Err NoSuchEdit)
    × (checked (Bulge 1 Left) new short ≡ Err NoSuchEdit)
    × (checked (Bulge 1 Right) new short ≡ Err ShortBuffer)
unfolding apart dist
edits_shown = (refl, refl, refl, refl, refl)

-- nothing is recorded: 23, whether or not the edit that is not recorded could be taken back
pub nothing_shown : (checked TakeBack new long ≡ Err NothingRecorded)
    × (checked TakeBack (session 4 0 (bulge_at 1 Right)) bulged ≡ Err NothingRecorded)
    × (checked TakeBack (session 4 1 (bulge_at 1 Right)) bulged ≡ Ok tt)
unfolding apart dist
nothing_shown = (refl, refl, refl)

-- 32 edits recorded are good, 33 are not; nor is a count of 5 where the buffer holds 4
pub claims_shown : (checked (Bulge 1 Right) (session 2 32 no_edit) long ≡ Ok tt)
    × (checked (Bulge 1 Right) (session 2 33 no_edit) long ≡ Err ListLength)
    × (checked (Press 1) (session 5 0 no_edit) bulged ≡ Err ListLength)
unfolding apart dist
claims_shown = (refl, refl, refl)

-- ---- what is left

abbrev session_left : Command → Session → List ℕ → Session
session_left c s buffer = session_after (checked c s buffer) c (edit_of c s buffer) (session_cells s buffer) s

abbrev buffer_left : Command → Session → List ℕ → List ℕ
buffer_left c s buffer = buffer_after (checked c s buffer) (edit_of c s buffer) (session_cells s buffer) buffer

-- a refused command leaves both as they were; a bulge is recorded at its place, and the byte behind it is 0; taking it back records nothing
pub left_shown : (session_left (Bulge 1 Left) new long ≡ new)
    × (buffer_left (Bulge 1 Left) new long ≡ long)
    × (session_left (Bulge 1 Right) new long ≡ session 4 1 (bulge_at 1 Right))
    × (buffer_left (Bulge 1 Right) new (long ++ (7 ∷ [])) ≡ bulged ++ (0 ∷ []))
    × (session_left TakeBack (session 4 1 (bulge_at 1 Right)) bulged ≡ session 2 0 (bulge_at 1 Right))
    × (buffer_left TakeBack (session 4 1 (bulge_at 1 Right)) bulged ≡ 1 ∷ 1 ∷ 2 ∷ 1 ∷ 0 ∷ 0 ∷ 0 ∷ 0 ∷ [])
unfolding apart dist
left_shown = (refl, refl, refl, refl, refl, refl)

-- a press is recorded with the side that its detour is on: here right of the way
pub side_shown : session_left (Press 1) (session 4 0 no_edit) bulged ≡ session 2 1 (record { place = 1; kind = kind.Press; side = Right })
unfolding apart dist
side_shown = refl

-- where 32 edits are recorded the oldest is dropped
pub dropped_shown : on_record (bulge_at 2 Left) 4 (session 2 32 (bulge_at 1 Left))
    ≡ record { count = record { 0 = 4 }; recorded = 32; edits = replicate 31 no_edit ++ (bulge_at 2 Left ∷ []) }
dropped_shown = refl
