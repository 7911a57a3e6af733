-- Document 02, R-11: a log is a list of entries (time-stamped events), each a cell and the tick at which it was burned or seen. The entries that
-- bytes hold, and what is refused of a log, in order.
use Rattle.std.specs.Prelude.{ℕ, ◌+◌, ◌*◌, ◌%◌, Bool, true, ◌&&◌, List, [], ◌∷◌, map, leb, eqb, get_or, Ok}
use Rattle.grid.specs.declared.Panel.{Panel}
use Rattle.grid.specs.declared.Cell.{Cell}
use Rattle.grid.specs.declared.Refusal.TheVariants.{CellOff, Repeated, TickBack}
use Rattle.grid.specs.Panel.{cell}
use Rattle.grid.specs.Check.{Check, expect}
use Rattle.list.specs.List.{all_on, none_twice}
use Rattle.log_entries.specs.declared.Entry.{Entry}

-- the entry of a cell at a tick
abbrev pub entry : Cell → ℕ → Entry
entry c t = record { cell = c; tick = t }

-- the number in four bytes, high first (big-endian)
abbrev pub high_first : ℕ → ℕ → ℕ → ℕ → ℕ
high_first a b c d = 256 * (256 * (256 * a + b) + c) + d

-- the entries that bytes hold, six bytes each: x, y, and the tick in four bytes; fewer than six at the end are none
abbrev pub entries_in : List ℕ → List Entry
entries_in (x ∷ y ∷ a ∷ b ∷ c ∷ d ∷ l) = entry (cell x y) (high_first a b c d) ∷ entries_in l
entries_in (x ∷ y ∷ a ∷ b ∷ c ∷ []) = []
entries_in (x ∷ y ∷ a ∷ b ∷ []) = []
entries_in (x ∷ y ∷ a ∷ []) = []
entries_in (x ∷ y ∷ []) = []
entries_in (x ∷ []) = []
entries_in [] = []

-- the entry of six bytes
abbrev pub entry_of : List ℕ → Entry
entry_of b = entry (cell (get_or b 0 0) (get_or b 1 0)) (high_first (get_or b 2 0) (get_or b 3 0) (get_or b 4 0) (get_or b 5 0))

-- those of six bytes each
abbrev pub entries_of : List (List ℕ) → List Entry
entries_of l = map entry_of l

-- a number of bytes that holds entries and nothing else
abbrev pub whole_entries : ℕ → Bool
whole_entries k = eqb (k % 6) 0

-- the entry with the number i, from 0, of a log; the cell (0, 0) at tick 0 behind its end
abbrev pub nth_entry : List Entry → ℕ → Entry
nth_entry l i = get_or l i (entry (cell 0 0) 0)

-- the cells of a log
abbrev pub cells_of : List Entry → List Cell
cells_of l = map (λ e. e.cell) l

-- no tick is below the one before it (the ticks are non-decreasing); t is the one before the first
abbrev pub rises_from : ℕ → List Entry → Bool
rises_from t [] = true
rises_from t (e ∷ l) = leb t e.tick && rises_from e.tick l

-- the same of a whole log: the first has none before it, and no tick is below 0
abbrev pub rises : List Entry → Bool
rises l = rises_from 0 l

-- 7, some cell is off the panel; 9, some cell stands twice; 21, some tick is below the one before it
abbrev pub log_check : Panel → List Entry → Check
log_check p l = expect (all_on p (cells_of l)) CellOff (expect (none_twice (cells_of l)) Repeated (expect (rises l) TickBack (Ok tt)))
