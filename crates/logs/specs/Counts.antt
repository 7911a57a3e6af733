-- Document 02, R-11: how many cells are in both logs, only in the laser's (only burned), only in the camera's (only seen), and in the camera's at
-- an earlier tick than in the laser's (seen before they were burned). In a log that passes 9 no cell stands twice, so its entries are counted
-- for its cells.
use Rattle.std.specs.Prelude.{ℕ, ◌+◌, Bool, false, cond, not, ◌&&◌, ◌||◌, List, [], ◌∷◌, ltb}
use Rattle.grid.specs.Panel.{same_cell}
use Rattle.list.specs.List.{among}
use Rattle.log_entries.specs.declared.Entry.{Entry}
use Rattle.log_entries.specs.Log.{cells_of}
use Rattle.logs.specs.declared.LogCounts.{LogCounts}

-- how many entries of a log pass a test (countP)
abbrev pub tally : (Entry → Bool) → List Entry → ℕ
tally f [] = 0
tally f (e ∷ l) = cond (f e) 1 0 + tally f l

-- a log has the entry's cell
abbrev pub logged : List Entry → Entry → Bool
logged l e = among e.cell (cells_of l)

-- a log has the entry's cell at a later tick
abbrev pub logged_later : List Entry → Entry → Bool
logged_later [] e = false
logged_later (f ∷ l) e = (same_cell e.cell f.cell && ltb e.tick f.tick) || logged_later l e

-- cells in both logs
abbrev pub in_both : List Entry → List Entry → ℕ
in_both a b = tally (logged b) a

-- cells in the first log and not in the second
abbrev pub only_in : List Entry → List Entry → ℕ
only_in a b = tally (λ e. not (logged b e)) a

-- cells seen at an earlier tick than burned
abbrev pub seen_earlier : List Entry → List Entry → ℕ
seen_earlier burned seen = tally (logged_later burned) seen

-- the four numbers
abbrev pub counts_of : List Entry → List Entry → LogCounts
counts_of burned seen = record {
  both = record { 0 = in_both burned seen };
  only_burned = record { 0 = only_in burned seen };
  only_seen = record { 0 = only_in seen burned };
  earlier = record { 0 = seen_earlier burned seen };
}
