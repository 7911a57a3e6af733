-- Document 02, R-2 and R-6: a list of cells as one layer in the Gerber Layer Format (RS-274X), line by line. A cell's centre is in nanometres:
-- millimetres with six decimals, as the first line says.
use Rattle.std.specs.Prelude.{ℕ, ◌+◌, ◌-◌, ◌*◌, ◌/◌, ◌%◌, Bool, cond, ◌&&◌, List, [], ◌∷◌, ◌++◌, eqb}
use Prim.Native.Char.{code}
use Rattle.grid.specs.declared.Panel.{Panel}
use Rattle.grid.specs.declared.Cell.{Cell}
use Rattle.text.specs.Ascii.{ascii}
use Rattle.text.specs.Decimal.{digit}
use Rattle.text.specs.Field.{field_of}

-- ---- where a cell's centre is

-- a = (2x − 1) × pitch × 500
unfoldable pub plot_x : Panel → Cell → ℕ
plot_x p c = (2 * c.x - 1) * p.pitch * 500

-- b = (2(n − y) + 1) × pitch × 500: Gerber y grows upward, and row 1 is on top
unfoldable pub plot_y : Panel → Cell → ℕ
plot_y p c = (2 * (p.height - c.y) + 1) * p.pitch * 500

-- ---- the lines

-- half the pitch in ten-thousandths of a millimetre: at most 50,000
abbrev pub half_pitch : Panel → ℕ
half_pitch p = 5 * p.pitch

-- d: a number of ten-thousandths with four decimals, as 2.0000; one digit stands before the point
abbrev pub four_decimals : ℕ → List ℕ
four_decimals n =
    digit (n / 10000 % 10) ∷ code "." ∷ digit (n / 1000 % 10) ∷ digit (n / 100 % 10) ∷ digit (n / 10 % 10) ∷ digit (n % 10) ∷ []

-- the lines in front of every list's: the format of numbers, millimetres, the round aperture D10 as wide as d, D10 taken, straight lines
unfoldable pub head_of : Panel → List ℕ
head_of p =
    ascii "%FSLAX46Y46*%\n" ++
    ascii "%MOMM*%\n" ++
    (ascii "%ADD10C," ++ four_decimals (half_pitch p) ++ ascii "*%\n") ++
    ascii "D10*\n" ++
    ascii "G01*\n"

-- what stands behind D in a flash, a move and a draw, with the line feed
abbrev pub flash : List ℕ
flash = ascii "03*\n"

abbrev pub move : List ℕ
move = ascii "02*\n"

abbrev pub draw : List ℕ
draw = ascii "01*\n"

-- the line XaYbD.. to a cell's centre, and the rest
abbrev pub line_to : Panel → List ℕ → Cell → List ℕ → List ℕ
line_to p operation c rest = ascii "X" ++ field_of (plot_x p c) (code "Y") (field_of (plot_y p c) (code "D") (operation ++ rest))

-- the last line
abbrev pub end_line : List ℕ
end_line = ascii "M02*\n"

-- ---- where the direction changes

-- from a over b to c the direction stays: b is the middle of a and c. Going back the way one came is a change
unfoldable pub straight : Cell → Cell → Cell → Bool
straight a b c = eqb (a.x + c.x) (2 * b.x) && eqb (a.y + c.y) (2 * b.y)

-- of a list that goes from a to b and on: the cells from b on where the direction changes, and the last
abbrev pub turns_from : Cell → Cell → List Cell → List Cell
turns_from a b [] = b ∷ []
turns_from a b (c ∷ l) = cond (straight a b c) (turns_from b c l) (b ∷ turns_from b c l)

-- ---- the layer

-- a draw to each of the cells, and the last line
abbrev pub draw_lines : Panel → List Cell → List ℕ
draw_lines p [] = end_line
draw_lines p (c ∷ l) = line_to p draw c (draw_lines p l)

-- the lines behind the head: a flash at the one cell of a list, or a move to the first cell and the draws; and the last line
abbrev pub lines_of : Panel → List Cell → List ℕ
lines_of p [] = end_line
lines_of p (s ∷ []) = line_to p flash s end_line
lines_of p (s ∷ b ∷ l) = line_to p move s (draw_lines p (turns_from s b l))

-- the layer of a list
abbrev pub layer_of : Panel → List Cell → List ℕ
layer_of p l = head_of p ++ lines_of p l
