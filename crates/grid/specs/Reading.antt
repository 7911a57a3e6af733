-- The cells of a panel in reading order (row-major order): rows from the top, each from the left.
use Rattle.std.specs.Prelude.{ℕ, zero, suc, List, [], ◌∷◌, ◌++◌}
use Rattle.grid.specs.declared.Panel.{Panel}
use Rattle.grid.specs.declared.Cell.{Cell}
use Rattle.grid.specs.Panel.{cell}

-- the lists g x, g (x + 1), .., k of them, one behind the other
abbrev pub run : (ℕ → List Cell) → ℕ → ℕ → List Cell
run g x zero = []
run g x (suc k) = g x ++ run g (suc x) k

-- the cells of row y, from the left
abbrev pub row : Panel → ℕ → List Cell
row p y = run (λ x. cell x y ∷ []) 1 p.width

-- the cells of the panel, row by row
abbrev pub reading : Panel → List Cell
reading p = run (row p) 1 p.height
