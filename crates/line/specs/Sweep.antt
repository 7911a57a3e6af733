-- Which cells the lines of a rectangle have, in their order: all rows, or all columns, there and back from a corner (boustrophedon).
use Rattle.std.specs.Prelude.{ℕ, zero, suc, ◌+◌, List, [], ◌++◌}
use Rattle.grid.specs.declared.Cell.{Cell}
use Rattle.grid.specs.Panel.{cell, dist}
use Rattle.line.specs.declared.Along.{Along}
use Rattle.line.specs.declared.Along.TheVariants.{Rows, Columns}
use Rattle.line.specs.Rectangle.{ahead}
use Rattle.line.specs.Line.{line}

-- line q from p to p', E p q being the p-th cell of the q-th line
abbrev pub line_from : (ℕ → ℕ → Cell) → ℕ → ℕ → ℕ → List Cell
line_from E p p' q = line (λ i. E (ahead p p' i) q) (dist p p' + 1)

-- k lines there and back: line f 0 from p to p', line f 1 from p' to p, and so on
abbrev pub lines : (ℕ → ℕ → Cell) → ℕ → ℕ → (ℕ → ℕ) → ℕ → List Cell
lines E p p' f zero = []
lines E p p' f (suc k) = line_from E p p' (f 0) ++ lines E p' p (λ j. f (suc j)) k

-- all rows, or all columns, of the rectangle of a and b, from the corner a
unfoldable pub sweep : Along → Cell → Cell → List Cell
sweep Rows a b = lines (λ x y. cell x y) a.x b.x (ahead a.y b.y) (suc (dist a.y b.y))
sweep Columns a b = lines (λ y x. cell x y) a.y b.y (ahead a.x b.x) (suc (dist a.x b.x))
