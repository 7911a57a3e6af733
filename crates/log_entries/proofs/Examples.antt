-- Computed: entries read from bytes, and the tests of a log. A wrong definition shows here.
use Rattle.std.specs.Prelude.{Ok, Err}
use mathlib.Core.Path.{◌≡◌, refl}
use mathlib.Core.List.{List, [], ◌∷◌}
use Rattle.grid.specs.Check.{Check}
use Rattle.grid.specs.declared.Refusal.TheVariants.{CellOff, Repeated, TickBack}
use Rattle.grid.specs.Panel.{panel, cell}
use Rattle.log_entries.specs.declared.Entry.{Entry}
use Rattle.log_entries.specs.Log.{entry, entries_in, log_check}

-- the bytes 0, 1, 2, 3 are the tick 66,051; a seventh byte is no entry
pub entries_shown : entries_in (7 ∷ 9 ∷ 0 ∷ 1 ∷ 2 ∷ 3 ∷ 5 ∷ []) ≡ entry (cell 7 9) 66051 ∷ []
entries_shown = refl

-- on a panel of 3 by 1
abbrev checked : List Entry → Check
checked l = log_check (panel 3 1 4000) l

-- no entry; equal ticks, from 0; a tick below the one before it; a cell twice, whatever the ticks; a cell off the panel, whatever else
pub checks_shown : (checked [] ≡ Ok tt)
    × (checked (entry (cell 1 1) 0 ∷ entry (cell 2 1) 0 ∷ entry (cell 3 1) 4 ∷ []) ≡ Ok tt)
    × (checked (entry (cell 1 1) 5 ∷ entry (cell 2 1) 4 ∷ []) ≡ Err TickBack)
    × (checked (entry (cell 1 1) 5 ∷ entry (cell 1 1) 4 ∷ []) ≡ Err Repeated)
    × (checked (entry (cell 1 1) 5 ∷ entry (cell 1 1) 4 ∷ entry (cell 4 1) 3 ∷ []) ≡ Err CellOff)
checks_shown = (refl, refl, refl, refl, refl)
