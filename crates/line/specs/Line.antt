-- Lines of cells, and lines there and back. A cell is also a 16-bit number, x in the low byte and y in the high one, so that a line in any direction is a
-- number and a step, modulo 65536.
use Rattle.std.specs.Prelude.{ℕ, zero, suc, ◌+◌, ◌-◌, ◌*◌, ◌/◌, ◌%◌, cond, List, [], ◌∷◌, ◌++◌, nat_le}
use Rattle.grid.specs.declared.Cell.{Cell}
use Rattle.grid.specs.Panel.{cell, dist}

-- the cells f 0, f 1, .., f (n - 1)
abbrev pub line : (ℕ → Cell) → ℕ → List Cell
line f zero = []
line f (suc n) = f 0 ∷ line (λ i. f (suc i)) n

-- a cell's number, and the cell of a number
unfoldable pub cell_number : Cell → ℕ
cell_number c = c.x + 256 * c.y

abbrev pub cell_of : ℕ → Cell
cell_of v = cell (v % 256) (v / 256)

-- cell i from the number f on, each a step s from the one before
abbrev pub numbered : ℕ → ℕ → ℕ → Cell
numbered f s i = cell_of ((f + s * i) % 65536)

-- the step from p towards q, where one cell further is u more
unfoldable pub step_to : ℕ → ℕ → ℕ → ℕ
step_to u p q = cond (nat_le p q) u (65536 - u)

-- k lines of n cells there and back (boustrophedon) from the number f on: one with the step s, the next with the step r;
-- from the end of a line to the next it is c
abbrev pub snake : ℕ → ℕ → ℕ → ℕ → ℕ → ℕ → List Cell
snake f s r c n zero = []
snake f s r c n (suc k) = line (numbered f s) n ++ snake ((f + s * (n - 1) + c) % 65536) r s c n k

-- the lines q to q', each from p to p', there and back from the number f on: the next cell of a line is u more, that of the next line v more
abbrev pub all_lines : ℕ → ℕ → ℕ → ℕ → ℕ → ℕ → ℕ → List Cell
all_lines f u v p q p' q' = snake f (step_to u p p') (step_to u p' p) (step_to v q q') (dist p p' + 1) (dist q q' + 1)
