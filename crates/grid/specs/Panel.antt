-- Document 01, "Panel, cell, track": panels, cells, neighbours and colours. A cell is a vertex of a rectangular grid graph.
use Rattle.std.specs.Prelude.{ℕ, ◌+◌, ◌-◌, ◌*◌, ◌%◌, ◌≤◌, ◌≡◌, Bool, ◌&&◌, leb, eqb}
use Rattle.grid.specs.declared.Panel.{Panel}
use Rattle.grid.specs.declared.Cell.{Cell}

-- a panel of m columns and n rows; q is its pitch, from centre to centre of neighbouring cells, in micrometres
abbrev pub panel : ℕ → ℕ → ℕ → Panel
panel m n q = record { width = m; height = n; pitch = q }

-- the largest side
abbrev pub max_side : ℕ
max_side = 128

-- the smallest pitch
abbrev pub min_pitch : ℕ
min_pitch = 1000

-- the largest pitch
abbrev pub max_pitch : ℕ
max_pitch = 10000

-- a number from low to high
abbrev pub between : ℕ → ℕ → ℕ → Bool
between low high a = leb low a && leb a high

-- a number from 1 to k
abbrev pub up_to : ℕ → ℕ → Bool
up_to k a = between 1 k a

-- a panel has width and height, each 1 to 128
abbrev pub good_sides : Panel → Bool
good_sides p = up_to max_side p.width && up_to max_side p.height

-- and a pitch of 1,000 to 10,000
abbrev pub good_pitch : Panel → Bool
good_pitch p = between min_pitch max_pitch p.pitch

-- both, which every call asks for
abbrev pub good_panel : Panel → Bool
good_panel p = good_sides p && good_pitch p

-- the same, as propositions: the sides, which are all that cells, tracks, classes and counts go by
pub record GoodSides (p : Panel) : Type 0 where
  pub wide : 1 ≤ p.width
  pub widest : p.width ≤ max_side
  pub high : 1 ≤ p.height
  pub highest : p.height ≤ max_side

-- sides and pitch
pub record GoodPanel (p : Panel) : Type 0 where
  pub sides : GoodSides p
  pub finest : min_pitch ≤ p.pitch
  pub coarsest : p.pitch ≤ max_pitch

-- mn, the number of a panel's cells
abbrev pub area : Panel → ℕ
area p = p.width * p.height

-- a cell of the panel: x from 1 to m, y from 1 to n
abbrev pub on_panel : Panel → Cell → Bool
on_panel p c = up_to p.width c.x && up_to p.height c.y

-- the same, as a proposition
pub record OnPanel (p : Panel) (c : Cell) : Type 0 where
  pub left : 1 ≤ c.x
  pub right : c.x ≤ p.width
  pub top : 1 ≤ c.y
  pub bottom : c.y ≤ p.height

-- the cell in column x and row y
abbrev pub cell : ℕ → ℕ → Cell
cell x y = record { x = x; y = y }

-- two cells are the same
abbrev pub same_cell : Cell → Cell → Bool
same_cell a b = eqb a.x b.x && eqb a.y b.y

-- how far two numbers are apart
unfoldable pub dist : ℕ → ℕ → ℕ
dist a b = (a - b) + (b - a)

-- how many steps two cells are apart
unfoldable pub apart : Cell → Cell → ℕ
unfolding dist
apart a b = dist a.x b.x + dist a.y b.y

-- two cells are neighbours if they share an edge: one step apart, in x or in y (adjacent vertices)
pub record Neighbours (a b : Cell) : Type 0 where
  pub one : apart a b ≡ 1

-- the same, as a test
abbrev pub neighbours : Cell → Cell → Bool
neighbours a b = eqb (apart a b) 1

-- a cell is white if x + y is even, else black
abbrev pub black : Cell → Bool
black c = eqb ((c.x + c.y) % 2) 1

-- the turned panel: m exchanged with n (the transposed grid), the pitch as it was
abbrev pub turned : Panel → Panel
turned p = panel p.height p.width p.pitch

-- a cell of the turned panel: x exchanged with y
abbrev pub turned_cell : Cell → Cell
turned_cell c = cell c.y c.x
