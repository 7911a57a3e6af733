-- Document 02, R-4: what a corner is, how many a list of cells has, and the squares of the list in hundredths.
use Rattle.std.specs.Prelude.{ℕ, ◌+◌, Bool, cond, not, ◌&&◌, List, [], ◌∷◌, eqb}
use Rattle.grid.specs.declared.Cell.{Cell}

-- a cell between two others is a corner (a bend of the path, not a corner of the panel) if the cells before and after it differ in both x and y
unfoldable pub corner_between : Cell → Cell → Bool
corner_between before after = not (eqb before.x after.x) && not (eqb before.y after.y)

-- of a list that goes from a to b and on: the corners from b on
abbrev pub corners_from : Cell → Cell → List Cell → ℕ
corners_from a b [] = 0
corners_from a b (c ∷ l) = cond (corner_between a c) 1 0 + corners_from b c l

-- the number of corners; the end cells are none
abbrev pub corners : List Cell → ℕ
corners [] = 0
corners (a ∷ []) = 0
corners (a ∷ b ∷ l) = corners_from a b l

-- of a list that goes from a to b and on, the squares from b on: 56 for a corner, 100 for a straight cell and for the last
abbrev pub squares_from : Cell → Cell → List Cell → ℕ
squares_from a b [] = 100
squares_from a b (c ∷ l) = cond (corner_between a c) 56 100 + squares_from b c l

-- the squares of a list (the unit in which sheet resistance is counted): 100 for the first cell, and those behind it
abbrev pub squares : List Cell → ℕ
squares [] = 0
squares (a ∷ []) = 100
squares (a ∷ b ∷ l) = 100 + squares_from a b l
