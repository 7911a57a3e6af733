-- Document 01: what is tested of a list of cells, each test over the whole list; the cell at a byte; a list put into a buffer.
use Rattle.std.specs.Prelude.{ℕ, ◌+◌, ◌*◌, ◌%◌, Bool, true, false, not, ◌&&◌, ◌||◌, List, [], ◌∷◌, ◌++◌, leb, eqb, length, drop, get_or}
use Rattle.grid.specs.declared.Panel.{Panel}
use Rattle.grid.specs.declared.Cell.{Cell}
use Rattle.grid.specs.Panel.{cell, dist, on_panel, same_cell, neighbours}
use Rattle.grid.specs.Bytes.{bytes}

-- the cell whose x stands at a byte of a list
abbrev pub cell_at : List ℕ → ℕ → Cell
cell_at b i = cell (get_or b i 0) (get_or b (i + 1) 0)

-- the cell with the number i, from 0, of a list; (0, 0) behind its end
abbrev pub nth : List Cell → ℕ → Cell
nth l i = get_or l i (cell 0 0)

-- the square of the straight distance between two cells
abbrev pub squared_distance : Cell → Cell → ℕ
squared_distance a b = dist a.x b.x * dist a.x b.x + dist a.y b.y * dist a.y b.y

-- a number of bytes that is neither 0 nor odd
abbrev pub whole_cells : ℕ → Bool
whole_cells k = leb 1 k && eqb (k % 2) 0

-- every cell is on the panel
abbrev pub all_on : Panel → List Cell → Bool
all_on p [] = true
all_on p (c ∷ l) = on_panel p c && all_on p l

-- a cell and those that follow it: each two successive cells are neighbours
abbrev pub steps_from : Cell → List Cell → Bool
steps_from a [] = true
steps_from a (b ∷ l) = neighbours a b && steps_from b l

-- each two successive cells are neighbours
abbrev pub all_steps : List Cell → Bool
all_steps [] = true
all_steps (a ∷ l) = steps_from a l

-- the cell stands in the list
abbrev pub among : Cell → List Cell → Bool
among c [] = false
among c (d ∷ l) = same_cell c d || among c l

-- no cell stands twice: each differs from all that follow
abbrev pub none_twice : List Cell → Bool
none_twice [] = true
none_twice (c ∷ l) = not (among c l) && none_twice l

-- the last of a cell and those that follow it
abbrev pub last_from : Cell → List Cell → Cell
last_from c [] = c
last_from c (d ∷ l) = last_from d l

-- the first cell is s and the last is t
abbrev pub runs : Cell → Cell → List Cell → Bool
runs s t [] = false
runs s t (c ∷ l) = same_cell c s && same_cell (last_from c l) t

-- a buffer with a list of cells at its front, the bytes behind as they were
abbrev pub with_cells : List Cell → List ℕ → List ℕ
with_cells l out = bytes l ++ drop (2 * length l) out
