-- Computed: the four numbers of two logs, and which refusal comes first. A wrong definition shows here.
use Rattle.std.specs.Prelude.{Err}
use Prim.Native.Nat.{ℕ}
use mathlib.Core.Path.{◌≡◌, refl}
use mathlib.Core.List.{List, [], ◌∷◌}
use Rattle.grid.specs.Check.{Check}
use Rattle.grid.specs.declared.Refusal.TheVariants.{Side, Pitch, ListLength, ShortBuffer, CellOff, Repeated, TickBack}
use Rattle.grid.specs.Panel.{panel, cell}
use Rattle.log_entries.specs.declared.Entry.{Entry}
use Rattle.log_entries.specs.Log.{entry}
use Rattle.logs.specs.Counts.{in_both, only_in, seen_earlier}
use Rattle.logs.specs.Logs.{sizes_check, entries_check}

-- burned at the ticks 3, 5, 5 and 8; seen at 2, 5, 6, 9 and 9
abbrev burned : List Entry
burned = entry (cell 1 1) 3 ∷ entry (cell 2 1) 5 ∷ entry (cell 3 1) 5 ∷ entry (cell 1 2) 8 ∷ []

abbrev seen : List Entry
seen = entry (cell 1 1) 2 ∷ entry (cell 2 1) 5 ∷ entry (cell 3 1) 6 ∷ entry (cell 2 2) 9 ∷ entry (cell 3 2) 9 ∷ []

-- (1, 1) is seen before it is burned, (2, 1) at the same tick, (3, 1) after
pub counts_shown : (in_both burned seen ≡ 3) × (only_in burned seen ≡ 1) × (only_in seen burned ≡ 2) × (seen_earlier burned seen ≡ 1)
counts_shown = (refl, refl, refl, refl)

-- the numbers of bytes of two logs, and of scratch, on a panel of 3 by 2
abbrev sized : ℕ → ℕ → ℕ → Check
sized a b room = sizes_check (panel 3 2 4000) a b room

-- 1 before 18 before 6 before 5
pub sizes_shown : (sizes_check (panel 129 2 0) 5 5 0 ≡ Err Side)
    × (sizes_check (panel 3 2 999) 5 5 0 ≡ Err Pitch)
    × (sized 5 6 0 ≡ Err ListLength)
    × (sized 6 4 0 ≡ Err ListLength)
    × (sized 0 12 5 ≡ Err ShortBuffer)
sizes_shown = (refl, refl, refl, refl, refl)

abbrev off : List Entry
off = entry (cell 4 1) 1 ∷ []

abbrev twice : List Entry
twice = entry (cell 1 1) 1 ∷ entry (cell 1 1) 1 ∷ []

abbrev back : List Entry
back = entry (cell 1 1) 2 ∷ entry (cell 2 1) 1 ∷ []

abbrev checked : List Entry → List Entry → Check
checked a b = entries_check (panel 3 2 4000) a b

-- the laser's 21 and 9 before the camera's 7, its 21 before the camera's 9; the camera's where the laser's log is good
pub order_shown : (checked back off ≡ Err TickBack)
    × (checked twice off ≡ Err Repeated)
    × (checked back twice ≡ Err TickBack)
    × (checked [] off ≡ Err CellOff)
    × (checked burned back ≡ Err TickBack)
order_shown = (refl, refl, refl, refl, refl)
