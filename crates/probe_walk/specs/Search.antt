-- The search for the probes: what it is given, what it keeps in scratch and beside it, and what it gives. No public call's promise cites this.
use Rattle.std.specs.Prelude.{ℕ, suc, ◌+◌, ◌-◌, ◌≤◌, ◌≡◌, true, cond, List, [], ◌∷◌, map, length, get_or}
use Rattle.grid.specs.declared.Panel.{Panel}
use Rattle.grid.specs.declared.Cell.{Cell}
use Rattle.grid.specs.Panel.{good_sides, area, OnPanel}
use Rattle.grid.specs.Bytes.{cells_in}
use Rattle.list.specs.List.{all_on, among, none_twice}
use Rattle.scratch.specs.Scratch.{held}
use Rattle.probe_walk.specs.declared.Found.{Found}
use Rattle.probe_walk.specs.Probes.{position, cells_read, places, placed, positions}

-- at most 64 probes, all on a panel with good sides
pub record Probed (p : Panel) (q : List Cell) : Type 0 where
  pub good : good_sides p ≡ true
  pub on : all_on p q ≡ true
  pub few : length q ≤ places

-- and a list without repeats, all on it too
pub record Searched (p : Panel) (list probes : List ℕ) : Type 0 where
  pub probed : Probed p (cells_in probes)
  pub inside : all_on p (cells_in list) ≡ true
  pub once : none_twice (cells_in list) ≡ true
  pub short : length list ≤ 32768

-- how many different cells the probes have that are not on the list
abbrev pub unfound : List Cell → List Cell → ℕ
unfound [] l = 0
unfound (c ∷ q) l = cond (among c q) 0 (cond (among c l) 0 1) + unfound q l

-- each place of scratch holds the position of its cell among the probes, 0 where it is not probed
pub record Marked (p : Panel) (q : List Cell) (scratch : List ℕ) : Type 0 where
  pub room : area p ≤ length scratch
  pub marks : (c : Cell) → OnPanel p c → held p scratch c ≡ position c q

-- at the first probe of each cell, the cell's position on the list
pub record Noted (q l : List Cell) (found : List ℕ) : Type 0 where
  pub notes : (c : Cell) (i : ℕ) → position c q ≡ suc i → get_or found i 0 ≡ position c l

-- the positions noted for the probes
abbrev pub noted_positions : List Cell → List ℕ → List ℕ
noted_positions q found = placed 0 (map (λ c. get_or found (position c q - 1) 0) q)

-- what is found: positions and cells read
abbrev pub found_on : List Cell → List Cell → Found
found_on q l = record { positions = positions q l; read = record { 0 = cells_read q l } }
