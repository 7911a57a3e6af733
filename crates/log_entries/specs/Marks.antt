-- What the logs' walks leave in scratch: each place of a list's cells is changed once. No public call's promise cites this.
use Rattle.std.specs.Prelude.{ℕ, ◌+◌, ◌≤◌, ◌<◌, ◌≡◌, cond, List, length, drop}
use Rattle.grid.specs.declared.Panel.{Panel}
use Rattle.grid.specs.declared.Cell.{Cell}
use Rattle.grid.specs.Panel.{area, OnPanel}
use Rattle.list.specs.List.{among}
use Rattle.scratch.specs.Scratch.{held}
use Rattle.log_entries.specs.declared.Entry.{Entry}
use Rattle.log_entries.specs.Log.{cells_of}

-- scratch enough for the panel, and every place holds less than m
pub record HoldsBelow (p : Panel) (m : ℕ) (s : List ℕ) : Type 0 where
  pub room : area p ≤ length s
  pub less : (c : Cell) → OnPanel p c → held p s c < m

-- the places of the list's cells, which held k before, hold f k; all other bytes are as they were
pub record Changed (p : Panel) (f : ℕ → ℕ) (l : List Cell) (old new : List ℕ) : Type 0 where
  pub size : length new ≡ length old
  pub rest : drop (area p) new ≡ drop (area p) old
  pub holds : (c : Cell) → OnPanel p c → held p new c ≡ cond (among c l) (f (held p old c)) (held p old c)

-- the mark m added to what was there
abbrev pub added : ℕ → ℕ → ℕ
added m k = k + m

-- 0 for whatever was there
abbrev pub erased : ℕ → ℕ
erased k = 0

-- a mark is added at the places of a log's cells
abbrev pub Adds : Panel → ℕ → List Entry → List ℕ → List ℕ → Type 0
Adds p m l old new = Changed p (added m) (cells_of l) old new
