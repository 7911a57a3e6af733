-- Which cells a corner track has, in their order: it is taken apart (peeled) into its first lines, which sweep a rectangle from the corner a, and the
-- corner track of the rectangle that remains.
use Rattle.std.specs.Prelude.{ℕ, zero, suc, ◌+◌, ◌-◌, ◌*◌, Bool, cond, ◌||◌, List, [], ◌++◌, leb, ltb, eqb}
use Rattle.grid.specs.declared.Cell.{Cell}
use Rattle.grid.specs.Panel.{cell, dist, same_cell}
use Rattle.line.specs.declared.Along.{Along}
use Rattle.line.specs.declared.Along.TheVariants.{Rows, Columns}
use Rattle.line.specs.Along.{seen, other}
use Rattle.line.specs.Rectangle.{ahead, turning}
use Rattle.line.specs.Sweep.{sweep}
use Rattle.corner.specs.declared.Lines.{Lines}
use Rattle.corner.specs.declared.Peeled.{Peeled}

-- the track is one line: the rectangle has one column or one row, or the target is the corner
abbrev pub one_line : Cell → Cell → Cell → Bool
one_line a b t = eqb a.x b.x || (eqb a.y b.y || same_cell a t)

-- and that line is a row, or a column
abbrev pub line_way : Cell → Cell → Along
line_way a t = cond (eqb a.y t.y) Rows Columns

-- k rows go first, or k columns
abbrev pub rows_first : ℕ → Lines
rows_first k = record { along = Rows; count = k }

abbrev pub columns_first : ℕ → Lines
columns_first k = record { along = Columns; count = k }

-- the lines that go first of w columns and h rows, the target being dx columns and dy rows away: all rows up to the one before the target's, or, in two
-- rows, all columns up to the one before the target's; else one line
unfoldable pub chosen : ℕ → ℕ → ℕ → ℕ → Lines
chosen w h dx dy =
    cond (ltb 1 dy) (rows_first (dy - 1))
    (cond (eqb dy 0) (columns_first 1)
    (cond (eqb h 2) (cond (ltb 1 dx) (columns_first (dx - 1)) (rows_first 1))
    (cond (eqb dx (w - 1)) (columns_first 1) (rows_first 1))))

-- the first k of the lines q to q', each from p to p', and the rectangle that remains; E p q is the p-th cell of the q-th line
abbrev pub lines_by : Along → (ℕ → ℕ → Cell) → ℕ → ℕ → ℕ → ℕ → ℕ → Peeled
lines_by way E p q p' q' k = record {
  along = way;
  far = E p' (ahead q q' (k - 1));
  end = E (turning k p p') (ahead q q' (k - 1));
  home = E (turning k p' p) q;
  cells = record { 0 = (dist p p' + 1) * k };
  corner = E (turning k p p') (ahead q q' k);
  opposite = E (turning k p' p) q';
}

-- the p-th cell of the q-th row, or else of the q-th column
abbrev pub place : Along → ℕ → ℕ → Cell
place way p q = seen way (cell p q)

-- the first k rows, or else columns, of the rectangle of a and b from the corner a
abbrev pub first_lines : Along → Cell → Cell → ℕ → Peeled
first_lines way a b k = lines_by way (place way) (seen way a).x (seen way a).y (seen way b).x (seen way b).y k

-- the lines that go first of the rectangle of a and b, chosen along its longer side
unfoldable pub peeled : Cell → Cell → Cell → Peeled
peeled a b t =
    let w = dist a.x b.x + 1 in
    let h = dist a.y b.y + 1 in
    let wide = chosen w h (dist a.x t.x) (dist a.y t.y) in
    let tall = chosen h w (dist a.y t.y) (dist a.x t.x) in
    cond (leb h w) (first_lines wide.along a b wide.count) (first_lines (other tall.along) a b tall.count)

-- the cells of the corner track from a to t in the rectangle of a and b: those of one line, or of the lines that go first and then of what remains. Lines
-- can be taken off at most k times.
abbrev pub corner_from : ℕ → Cell → Cell → Cell → List Cell
corner_from zero a b t = []
corner_from (suc k) a b t =
    let r = peeled a b t in
    cond (one_line a b t) (sweep (line_way a t) a t) (sweep r.along a r.far ++ corner_from k r.corner r.opposite t)

-- each time a side gets shorter
unfoldable pub corner_cells : Cell → Cell → Cell → List Cell
corner_cells a b t = corner_from (suc (dist a.x b.x + dist a.y b.y)) a b t
