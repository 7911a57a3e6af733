-- The 3 by 3 panel: its longest tracks, one row for each pair of terminals up to turning, mirroring and exchanging, and how a row is placed on the
-- panel for two terminals. Draw's promise that it draws a longest track does not rest on this file; which of them it draws does.
use Rattle.std.specs.Prelude.{ℕ, ◌+◌, ◌-◌, ◌*◌, ◌≤◌, Bool, true, false, cond, List, [], ◌∷◌, ltb, eqb, get_or}
use Rattle.grid.specs.declared.Cell.{Cell}
use Rattle.grid.specs.Panel.{cell, turned_cell}
use Rattle.line.specs.Line.{line}
use Rattle.table.specs.declared.Placing.{Placing}

-- a row: the number of cells, then x and y of each
abbrev pub rows : List (List ℕ)
rows =
    (8 ∷ 1 ∷ 1 ∷ 1 ∷ 2 ∷ 1 ∷ 3 ∷ 2 ∷ 3 ∷ 3 ∷ 3 ∷ 3 ∷ 2 ∷ 3 ∷ 1 ∷ 2 ∷ 1 ∷ 0 ∷ 0 ∷ [])
    ∷ (9 ∷ 1 ∷ 1 ∷ 2 ∷ 1 ∷ 3 ∷ 1 ∷ 3 ∷ 2 ∷ 3 ∷ 3 ∷ 2 ∷ 3 ∷ 1 ∷ 3 ∷ 1 ∷ 2 ∷ 2 ∷ 2 ∷ [])
    ∷ (9 ∷ 1 ∷ 1 ∷ 1 ∷ 2 ∷ 1 ∷ 3 ∷ 2 ∷ 3 ∷ 3 ∷ 3 ∷ 3 ∷ 2 ∷ 2 ∷ 2 ∷ 2 ∷ 1 ∷ 3 ∷ 1 ∷ [])
    ∷ (8 ∷ 1 ∷ 1 ∷ 1 ∷ 2 ∷ 1 ∷ 3 ∷ 2 ∷ 3 ∷ 2 ∷ 2 ∷ 2 ∷ 1 ∷ 3 ∷ 1 ∷ 3 ∷ 2 ∷ 0 ∷ 0 ∷ [])
    ∷ (9 ∷ 1 ∷ 1 ∷ 2 ∷ 1 ∷ 3 ∷ 1 ∷ 3 ∷ 2 ∷ 2 ∷ 2 ∷ 1 ∷ 2 ∷ 1 ∷ 3 ∷ 2 ∷ 3 ∷ 3 ∷ 3 ∷ [])
    ∷ (7 ∷ 2 ∷ 1 ∷ 3 ∷ 1 ∷ 3 ∷ 2 ∷ 3 ∷ 3 ∷ 2 ∷ 3 ∷ 1 ∷ 3 ∷ 1 ∷ 2 ∷ 0 ∷ 0 ∷ 0 ∷ 0 ∷ [])
    ∷ (8 ∷ 2 ∷ 1 ∷ 1 ∷ 1 ∷ 1 ∷ 2 ∷ 1 ∷ 3 ∷ 2 ∷ 3 ∷ 3 ∷ 3 ∷ 3 ∷ 2 ∷ 2 ∷ 2 ∷ 0 ∷ 0 ∷ [])
    ∷ (7 ∷ 2 ∷ 1 ∷ 1 ∷ 1 ∷ 1 ∷ 2 ∷ 2 ∷ 2 ∷ 3 ∷ 2 ∷ 3 ∷ 3 ∷ 2 ∷ 3 ∷ 0 ∷ 0 ∷ 0 ∷ 0 ∷ [])
    ∷ []

-- number i of row k
abbrev pub entry_at : ℕ → ℕ → ℕ
entry_at k i = get_or (get_or rows k []) i 0

-- how many cells row k has
abbrev pub row_size : ℕ → ℕ
row_size k = entry_at k 0

-- cell j of row k, from 0
abbrev pub row_cell : ℕ → ℕ → Cell
row_cell k j = cell (entry_at k (2 * j + 1)) (entry_at k (2 * j + 2))

-- ---- a row placed on the panel: turned, then mirrored, and walked from its end where it is placed backwards

-- a cell, turned where `on` is set
abbrev pub turn_if : Bool → Cell → Cell
turn_if on c = cond on (turned_cell c) c

-- a coordinate, mirrored where `on` is set
abbrev pub mirror : Bool → ℕ → ℕ
mirror on a = cond on (4 - a) a

-- a cell, mirrored in x where `across` is set and in y where `down` is
abbrev pub mirror_cell : Bool → Bool → Cell → Cell
mirror_cell across down c = cell (mirror across c.x) (mirror down c.y)

-- a cell of a row as it is placed
abbrev pub place : Placing → Cell → Cell
place p c = mirror_cell p.across p.down (turn_if p.turn c)

-- the place in a row of n cells of the cell that is written as number i
abbrev pub position : Bool → ℕ → ℕ → ℕ
position back n i = cond back (n - (i + 1)) i

-- the cell that is written as number i
abbrev pub placed_cell : Placing → ℕ → Cell
placed_cell p i = place p (row_cell p.row (position p.back (row_size p.row) i))

-- ---- which row, and how it is placed

-- a cell of the panel, or one off it by one, mirrored or not
abbrev pub UpToFour : Cell → Type 0
UpToFour c = (c.x ≤ 4) × (c.y ≤ 4)

-- how many of a cell's coordinates are 2: none of a corner's, one at an edge, both in the centre
abbrev pub twos : Cell → ℕ
twos c = cond (eqb c.x 2) (cond (eqb c.y 2) 2 1) (cond (eqb c.y 2) 1 0)

-- mirrored so that the first of two coordinates that is not 2 is 1
abbrev pub to_mirror : ℕ → ℕ → Bool
to_mirror a b = cond (eqb a 2) (eqb b 3) (eqb a 3)

-- turned so that the first of two cells off the diagonal is right of it
abbrev pub to_turn : Cell → Cell → Bool
to_turn a b = cond (eqb a.x a.y) (ltb b.x b.y) (ltb a.x a.y)

-- the row for two cells that are turned and mirrored already
abbrev pub row_of : Cell → Cell → ℕ
row_of a b = cond (eqb a.x 1) (2 * b.x + b.y - 5) (b.x + b.y + 2)

-- how the row for the cells u and v is placed, which are mirrored already
abbrev pub turned_placing : Bool → Bool → Cell → Cell → Bool → Bool → Placing
turned_placing across down u v turn back =
    record { row = row_of (turn_if turn u) (turn_if turn v); turn = turn; across = across; down = down; back = back }

-- how the row that starts at a and ends at b is placed
unfoldable pub placing_from : Cell → Cell → Bool → Placing
placing_from a b back =
    let across = to_mirror a.x b.x in
    let down = to_mirror a.y b.y in
    let u = mirror_cell across down a in
    let v = mirror_cell across down b in
    turned_placing across down u v (to_turn u v) back

-- how a row is placed for the terminals s and t: from the one that has fewer coordinates 2
unfoldable pub placing : Cell → Cell → Placing
placing s t = cond (ltb (twos t) (twos s)) (placing_from t s true) (placing_from s t false)

-- the cells of the row for s and t, as it is placed
unfoldable pub tabled : Cell → Cell → List Cell
tabled s t = let p = placing s t in line (placed_cell p) (row_size p.row)
