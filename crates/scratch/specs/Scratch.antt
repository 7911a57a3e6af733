-- Document 01, "Judge": the scratch of a panel, a byte for each of its cells in front and bytes behind that no call touches.
use Rattle.std.specs.Prelude.{ℕ, ◌+◌, ◌-◌, ◌*◌, ◌≤◌, ◌≡◌, Bool, List, ◌++◌, eqb, length, take, drop, get_or, replicate}
use Rattle.grid.specs.declared.Panel.{Panel}
use Rattle.grid.specs.declared.Cell.{Cell}
use Rattle.grid.specs.Panel.{area}

-- the place of a cell, row by row
abbrev pub place : Panel → Cell → ℕ
place p c = (c.y - 1) * p.width + (c.x - 1)

-- what the place of a cell holds
abbrev pub held : Panel → List ℕ → Cell → ℕ
held p s c = get_or s (place p c) 0

-- it holds 0
abbrev pub unmarked : Panel → List ℕ → Cell → Bool
unmarked p s c = eqb (held p s c) 0

-- scratch with its first k bytes 0 and the rest untouched
abbrev pub zeros_for : ℕ → List ℕ → List ℕ
zeros_for k s = replicate k 0 ++ drop k s

-- the same for the places of a panel
abbrev pub cleared : Panel → List ℕ → List ℕ
cleared p s = zeros_for (area p) s

-- scratch enough for the panel, and its first mn bytes are 0
pub record Clean (p : Panel) (s : List ℕ) : Type 0 where
  pub room : area p ≤ length s
  pub zeros : take (area p) s ≡ replicate (area p) 0
