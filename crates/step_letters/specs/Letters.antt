-- Document 01, "Record": one letter for each step (a chain code, Freeman's four directions), and the cells that letters lead over.
use Rattle.std.specs.Prelude.{ℕ, ◌+◌, ◌-◌, Bool, true, cond, Result, Ok, Err, ◌&&◌, ◌||◌, List, [], ◌∷◌, ◌++◌, length, take, drop, ltb, eqb}
use Rattle.grid.specs.declared.Panel.{Panel}
use Rattle.grid.specs.declared.Cell.{Cell}
use Rattle.grid.specs.declared.Refusal.{Refusal}
use Rattle.grid.specs.declared.Refusal.TheVariants.{UnknownByte}
use Rattle.grid.specs.Panel.{panel, max_side, max_pitch, cell}

-- the letter N, up
abbrev pub north : ℕ
north = 0x4E

-- the letter E, right
abbrev pub east : ℕ
east = 0x45

-- the letter S, down
abbrev pub south : ℕ
south = 0x53

-- the letter W, left
abbrev pub west : ℕ
west = 0x57

-- the letter of the step from a to its neighbour b
unfoldable pub letter : Cell → Cell → ℕ
letter a b = cond (ltb b.y a.y) north (cond (ltb a.x b.x) east (cond (ltb a.y b.y) south west))

-- one letter for each step of a walk that stands at a and goes on over l
abbrev pub letters_from : Cell → List Cell → List ℕ
letters_from a [] = []
letters_from a (b ∷ l) = letter a b ∷ letters_from b l

-- one letter for each step of a list of cells
abbrev pub letters_of : List Cell → List ℕ
letters_of [] = []
letters_of (a ∷ l) = letters_from a l

-- steps of a list of cells: one fewer than its cells
abbrev pub steps_of : List Cell → ℕ
steps_of [] = 0
steps_of (a ∷ l) = length l

-- the cell that a letter leads to from c; any other byte leads to (0, 0), which is on no panel
unfoldable pub stepped : Cell → ℕ → Cell
stepped c b =
    cond (eqb b north) (cell c.x (c.y - 1))
    (cond (eqb b east) (cell (c.x + 1) c.y)
    (cond (eqb b south) (cell c.x (c.y + 1))
    (cond (eqb b west) (cell (c.x - 1) c.y)
    (cell 0 0))))

-- one of the four letters
unfoldable pub known : ℕ → Bool
known b = eqb b north || (eqb b east || (eqb b south || eqb b west))

-- where a letter leads from a cell, or refusal 16
abbrev pub step_by : Cell → ℕ → Result Cell Refusal
step_by c b = cond (known b) (Ok (stepped c b)) (Err UnknownByte)

-- every byte is one of the four letters
abbrev pub all_known : List ℕ → Bool
all_known [] = true
all_known (b ∷ l) = known b && all_known l

-- the cells that letters lead to from a cell
abbrev pub walk_on : Cell → List ℕ → List Cell
walk_on c [] = []
walk_on c (b ∷ l) = stepped c b ∷ walk_on (stepped c b) l

-- the same with the cell itself in front
abbrev pub walk_from : Cell → List ℕ → List Cell
walk_from c l = c ∷ walk_on c l

-- the largest panel, whose cells are asked for and nothing else: a byte holds each side, and each coordinate of its cells
abbrev pub largest_panel : Panel
largest_panel = panel max_side max_side max_pitch

-- a buffer with the letters of a list of cells from a byte on, the other bytes as they were
abbrev pub with_letters : ℕ → List Cell → List ℕ → List ℕ
with_letters from l out = take from out ++ (letters_of l ++ drop (from + steps_of l) out)
