-- The walk over both logs in the order of ticks: what it is given and what it passes. No public call's promise cites this.
use Rattle.std.specs.Prelude.{ℕ, ◌+◌, ◌≤◌, ◌≡◌, true, cond, List, [], ◌∷◌, leb, length, take, drop, Result}
use Rattle.grid.specs.declared.Panel.{Panel}
use Rattle.grid.specs.declared.Cell.{Cell}
use Rattle.grid.specs.declared.Refusal.{Refusal}
use Rattle.grid.specs.Panel.{good_sides, area, OnPanel}
use Rattle.list.specs.List.{all_on, among, none_twice}
use Rattle.scratch.specs.Scratch.{held}
use Rattle.log_entries.specs.declared.Entry.{Entry}
use Rattle.log_entries.specs.Log.{cells_of, rises}
use Rattle.log_entries.specs.Marks.{Changed, erased}
use Rattle.logs.specs.declared.LogCounts.{LogCounts}
use Rattle.logs.specs.Logs.{entries_check, logs_answer}

-- a log that passes its tests
pub record GoodLog (p : Panel) (l : List Entry) : Type 0 where
  pub on : all_on p (cells_of l) ≡ true
  pub once : none_twice (cells_of l) ≡ true
  pub up : rises l ≡ true

-- two such logs of a panel with good sides
pub record BothGood (p : Panel) (burned seen : List Entry) : Type 0 where
  pub sides : good_sides p ≡ true
  pub laser : GoodLog p burned
  pub camera : GoodLog p seen

-- in scratch: 1 at the places of the laser's cells, 2 at the camera's, 3 where both are
pub record HoldsMarks (p : Panel) (burned seen : List Entry) (scratch : List ℕ) : Type 0 where
  pub room : area p ≤ length scratch
  pub marks : (c : Cell) → OnPanel p c
      → held p scratch c ≡ cond (among c (cells_of burned)) 1 0 + cond (among c (cells_of seen)) 2 0

-- the entries from the first one on whose tick is above t (dropWhile)
abbrev pub ahead : ℕ → List Entry → List Entry
ahead t [] = []
ahead t (e ∷ l) = cond (leb e.tick t) (ahead t l) (e ∷ l)

-- of a log whose first `passed` entries are passed already: those up to the tick t are passed too, which makes r; and where old is some scratch
-- with the places of the first ones erased, new is that scratch with those of all r erased
pub record Passes (p : Panel) (l : List Entry) (passed t : ℕ) (old : List ℕ) (r : ℕ) (new : List ℕ) : Type 0 where
  pub left : drop r l ≡ ahead t (drop passed l)
  pub gone : (base : List ℕ) → Changed p erased (take passed (cells_of l)) base old → Changed p erased (take r (cells_of l)) base new

-- the answer behind the sizes: what the logs are refused for, or the four numbers
abbrev pub entries_answer : Panel → List Entry → List Entry → Result LogCounts Refusal
entries_answer p burned seen = logs_answer (entries_check p burned seen) burned seen
