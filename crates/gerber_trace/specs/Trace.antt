-- A layer read back, cell by cell: a strict reading that takes exactly the layers of lists (proofs/RoundTrip.antt). The reader's promise does not
-- name it; the parts of the reader do.
use Rattle.std.specs.Prelude.{ℕ, zero, suc, ◌+◌, ◌-◌, ◌*◌, ◌/◌, Bool, cond, ◌&&◌, List, [], ◌∷◌, length, drop, leb, ltb, eqb, Option, None, Some}
use Prim.Native.Char.{code}
use Rattle.grid.specs.declared.Panel.{Panel}
use Rattle.grid.specs.declared.Cell.{Cell}
use Rattle.grid.specs.Panel.{area, cell, on_panel, same_cell}
use Rattle.text.specs.Ascii.{ascii}
use Rattle.text.specs.Front.{begins, behind_text}
use Rattle.text.specs.Field.{field, and_then}
use Rattle.gerber.specs.Layer.{plot_x, plot_y, head_of, flash, move, draw, end_line, straight}
use Rattle.gerber_trace.specs.declared.Target.{Target}
use Rattle.gerber_trace.specs.declared.Trace.{Trace}

-- ---- a line

-- what a line at the front of bytes leads to: nothing of the form, or a cell and the bytes behind the line
pub data Aim : Type 0 where
  nothing : Aim
  cell_and : Cell → List ℕ → Aim

-- the cell that a and b would be the centre of: whole pitches from the left edge, and from the lower one
unfoldable pub plotted : Panel → ℕ → ℕ → Cell
plotted p a b = cell (a / (p.pitch * 1000) + 1) (p.height - b / (p.pitch * 1000))

-- a cell of the panel whose centre is at a and b
abbrev pub is_centre : Panel → ℕ → ℕ → Cell → Bool
is_centre p a b c = on_panel p c && (eqb (plot_x p c) a && eqb (plot_y p c) b)

-- the cell whose centre is at a and b, if there is one
abbrev pub centred : Panel → ℕ → ℕ → List ℕ → Aim
centred p a b r = cond (is_centre p a b (plotted p a b)) (cell_and (plotted p a b) r) nothing

-- a line to a cell's centre: X; a and Y; b and D; the operation
abbrev pub behind_d : Panel → List ℕ → ℕ → ℕ → List ℕ → Aim
behind_d p operation a b l = behind_text nothing operation l (centred p a b)

abbrev pub behind_y : Panel → List ℕ → ℕ → List ℕ → Aim
behind_y p operation a l = and_then nothing (field (code "D") l) (behind_d p operation a)

abbrev pub behind_x : Panel → List ℕ → List ℕ → Aim
behind_x p operation l = and_then nothing (field (code "Y") l) (behind_y p operation)

abbrev pub line_at : Panel → List ℕ → List ℕ → Aim
line_at p operation l = behind_text nothing (ascii "X") l (behind_x p operation)

-- the same up to a position of the file
abbrev pub aim_of : List ℕ → Option Target → Aim
aim_of file None = nothing
aim_of file (Some t) = cell_and t.cell (drop t.next file)

-- ---- a step

-- what is next: nothing of the form, the end, or from a to b on the way to the goal g, with the bytes r behind the goal's line
pub data Next : Type 0 where
  other : Next
  end : Next
  to : Cell → Cell → Cell → List ℕ → Next

-- bytes that are the last line and nothing else
abbrev pub is_end : List ℕ → Bool
is_end r = begins end_line r && eqb (length r) (length end_line)

-- the cell behind b, coming from a, where the direction stays
abbrev pub ahead : Cell → Cell → Cell
ahead a b = cell (2 * b.x - a.x) (2 * b.y - a.y)

-- the cell beside b towards g, in its row if g is in another column
unfoldable pub towards : Cell → Cell → Cell
towards b g =
    cond (ltb b.x g.x) (cell (b.x + 1) b.y)
    (cond (ltb g.x b.x) (cell (b.x - 1) b.y)
    (cond (ltb b.y g.y) (cell b.x (b.y + 1)) (cell b.x (b.y - 1))))

-- on from b to c, if c is on the panel
abbrev pub on_to : Panel → Cell → Cell → Cell → List ℕ → Next
on_to p b c g r = cond (on_panel p c) (to b c g r) other

-- on from b to c, if the direction changes at b
abbrev pub turn_to : Panel → Cell → Cell → Cell → Cell → List ℕ → Next
turn_to p a b c g r = cond (straight a b c) other (on_to p b c g r)

-- at b, coming from a, the next line leads to a goal
abbrev pub aimed : Panel → Cell → Cell → Aim → Next
aimed p a b nothing = other
aimed p a b (cell_and g r) = turn_to p a b (towards b g) g r

-- at b, coming from a, on the way to g, with the bytes r behind g's line: at the goal the end or the next line, before it straight on
abbrev pub next_of : Panel → Cell → Cell → Cell → List ℕ → Next
next_of p a b g r =
    cond (same_cell b g) (cond (is_end r) end (aimed p a b (line_at p draw r))) (on_to p b (ahead a b) g r)

-- the same up to a position of the file
abbrev pub step_of : List ℕ → Option (Option Trace) → Next
step_of file None = other
step_of file (Some None) = end
step_of file (Some (Some t)) = to t.before t.at t.goal (drop t.next file)

-- ---- the cells

-- what is found: nothing of the form, or cells
pub data Found : Type 0 where
  none : Found
  cells : List Cell → Found

-- a cell in front of what is found
abbrev pub in_front : Cell → Found → Found
in_front c none = none
in_front c (cells l) = cells (c ∷ l)

-- what a step finds: nothing, no cell more, or the next cell and what is found behind it
abbrev pub follow : Next → (Cell → Cell → Cell → List ℕ → Found) → Found
follow other f = none
follow end f = cells []
follow (to a b g r) f = in_front b (f a b g r)

-- the cells behind b in at most k steps, the end being one
abbrev pub cells_behind : Panel → ℕ → Cell → Cell → Cell → List ℕ → Found
cells_behind p zero a b g r = none
cells_behind p (suc k) a b g r = follow (next_of p a b g r) (cells_behind p k)

-- the first cell, which a move goes to, and those behind it: at most as many as the panel has
abbrev pub cells_from : Panel → Aim → Found
cells_from p nothing = none
cells_from p (cell_and s r) = in_front s (cells_behind p (area p) s s s r)

-- what is found, if it is two cells or more: a move without a draw is of another form
abbrev pub several : Found → Found
several none = none
several (cells l) = cond (leb 2 (length l)) (cells l) none

-- ---- a file

-- the line behind the head, with an operation
abbrev pub first_at : Panel → List ℕ → List ℕ → Aim
first_at p operation file = behind_text nothing (head_of p) file (line_at p operation)

-- where there is a flash its cell alone, if the last line follows; where there is none, the cells of a move
abbrev pub cells_of : Panel → Aim → Aim → Found
cells_of p (cell_and s r) moved = cond (is_end r) (cells (s ∷ [])) none
cells_of p nothing moved = several (cells_from p moved)

-- the cells of a file
abbrev pub traced : Panel → List ℕ → Found
traced p file = cells_of p (first_at p flash file) (first_at p move file)
