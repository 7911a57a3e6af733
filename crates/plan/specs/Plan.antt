-- Which plan is drawn, for m columns and n rows: the pure namesakes of the code's choosing functions. Draw's promise that it draws a longest track does
-- not rest on this file; which of them it draws does.
use Rattle.std.specs.Prelude.{ℕ, ◌+◌, ◌-◌, ◌%◌, Bool, true, cond, not, ◌&&◌, leb, ltb, eqb}
use Rattle.grid.specs.declared.Cell.{Cell}
use Rattle.grid.specs.Panel.{black, same_cell, turned_cell}
use Rattle.count.specs.Count.{odd, is_end}
use Rattle.plan.specs.declared.Leg.{Leg}
use Rattle.plan.specs.declared.Plan.{Plan}
use Rattle.plan.specs.declared.Plan.TheVariants.{One, Two, Three, Five}
use Rattle.plan.specs.Leg.{cell, forth, back, moved_plan, mirror_x, mirror_y, reversed_plan}

-- ---- plans by way of others

-- the plan that f gives for the terminals moved by g, moved back; g is a turn or a mirror, which undo themselves
abbrev pub moving : (Cell → Cell) → (Cell → Cell → Plan) → Cell → Cell → Plan
moving g f s t = moved_plan g (f (g s) (g t))

-- the terminals named so that s is not right of t
abbrev pub left_first : (Cell → Cell → Plan) → Cell → Cell → Plan
left_first f s t = cond (ltb t.x s.x) (reversed_plan (f t s)) (f s t)

-- ---- the plans

-- two blocks, columns 1 to c and c + 1 to m, joined by the edge from (c, j) to (c + 1, j), j being row 1 or n
unfoldable pub split : ℕ → ℕ → Cell → Cell → ℕ → ℕ → Plan
split m n s t c j = Two (back (cell c j) (cell 1 (n + 1 - j)) s) (forth (cell (c + 1) j) (cell m (n + 1 - j)) t)

-- the rows from 3 on split after column c, joined by rows 1 and 2
unfoldable pub bridge : ℕ → ℕ → Cell → Cell → ℕ → Plan
bridge m n s t c = Three (back (cell 1 3) (cell c n) s) (forth (cell 1 2) (cell m 1) (cell m 2)) (forth (cell m 3) (cell (c + 1) n) t)

-- once around t, the right neighbour of s
unfoldable pub wrap : ℕ → ℕ → Cell → Cell → Plan
wrap m n s t =
    Five
    (forth s (cell 1 1) (cell s.x 1))
    (forth (cell (s.x + 1) 1) (cell m (s.y - 1)) (cell m (s.y - 1)))
    (forth (cell m s.y) (cell (s.x + 2) n) (cell (s.x + 2) (s.y + 2)))
    (back (cell (s.x + 1) (s.y + 1)) (cell 1 n) (cell (s.x + 1) (s.y + 2)))
    (forth t t t)

-- three rows: the columns from x to far, entered in row r and left in row q
unfoldable pub round : ℕ → ℕ → ℕ → ℕ → Leg
round x far r q = cond (eqb r 2) (back (cell x q) (cell far (4 - q)) (cell x r)) (forth (cell x r) (cell far (4 - r)) (cell x q))

-- three rows, all different: along s's row, around on the right, back in the row r, around on the left, along t's row
unfoldable pub zigzag : ℕ → Cell → Cell → ℕ → Plan
zigzag m s t r =
    Five
    (forth s (cell t.x s.y) (cell t.x s.y))
    (round (t.x + 1) m s.y r)
    (forth (cell t.x r) (cell s.x r) (cell s.x r))
    (round (s.x - 1) 1 r t.y)
    (forth (cell s.x t.y) t t)

-- three rows: two blocks joined in row 2
unfoldable pub middle : ℕ → Cell → Cell → Plan
middle m s t = Two (forth s (cell 1 (4 - s.y)) (cell s.x 2)) (back t (cell m (4 - t.y)) (cell t.x 2))

-- ---- the tests

-- two colours differ
abbrev pub differ : Bool → Bool → Bool
differ a b = cond a (not b) b

-- m even, s black, t white, s being the left one
abbrev pub critical : ℕ → Cell → Cell → Bool
critical m s t = not (odd m) && (black s && not (black t))

-- the edge from (c, j) to (c + 1, j) leaves both terminals out
abbrev pub free : ℕ → ℕ → Cell → Cell → Bool
free c j s t = not (same_cell (cell c j) s) && not (same_cell (cell (c + 1) j) t)

-- further apart in rows than in columns, s not right of t
abbrev pub steep : Cell → Cell → Bool
steep s t = cond (ltb (t.x + s.y) (s.x + t.y)) true (ltb (t.x + t.y) (s.x + s.y))

-- a cell in a corner of the panel
abbrev pub corner : ℕ → ℕ → Cell → Bool
corner m n c = is_end m c.x && is_end n c.y

-- one row, where every track goes straight
abbrev pub straight : ℕ → Bool
straight n = eqb n 1

-- of the columns on either side of the terminals there are more on the left
abbrev pub left_larger : ℕ → Cell → Cell → Bool
left_larger m s t = ltb m (s.x + t.x)

-- the edge after column c in row 1 begins with another colour than that of s
abbrev pub starts_other : ℕ → Cell → Bool
starts_other c s = differ (black (cell c 1)) (black s)

-- ---- which plan

-- two rows: a split at s; where the terminals stand in one column, or in neighbouring ones with different y, the larger side alone
unfoldable pub two_rows : ℕ → Cell → Cell → Plan
two_rows m s t =
    cond (eqb s.y t.y) (split m 2 s t s.x (3 - s.y))
    (cond (ltb (s.x + 1) t.x) (split m 2 s t s.x (3 - s.y))
    (cond (left_larger m s t) (One (back t (cell 1 (3 - t.y)) s))
    (One (forth s (cell m (3 - s.y)) t))))

-- the third of the rows 1, 2 and 3
abbrev pub third : Cell → Cell → ℕ
third s t = 6 - (s.y + t.y)

-- three rows: five legs where the terminals are further apart in rows than in columns, else a split at s, by row 1 if it is free
unfoldable pub three_rows_apart : ℕ → Cell → Cell → Plan
three_rows_apart m s t = cond (steep s t) (zigzag m s t (third s t)) (split m 3 s t s.x (cond (free s.x 1 s t) 1 3))

-- three rows: mirrored where the terminals of the critical case stand in one column, joined in row 2 where s is in an even column and t in the next one
unfoldable pub three_rows : ℕ → Cell → Cell → Plan
three_rows m s t =
    cond (critical m s t)
    (cond (eqb s.x t.x) (moving (mirror_x m) (λ a b. zigzag m a b (third s t)) s t)
    (cond (not (odd s.x) && eqb (s.x + 1) t.x) (middle m s t)
    (three_rows_apart m s t)))
    (three_rows_apart m s t)

-- a wrap, mirrored in y where n is odd and s in the last row but one, or n is even and s in an odd row
unfoldable pub wrapped : ℕ → ℕ → Cell → Cell → Plan
wrapped m n s t =
    cond (cond (odd n) (eqb (s.y + 1) n) (odd s.y))
    (moving (mirror_y n) (wrap m n) s t)
    (wrap m n s t)

-- the row that a split after column c crosses in
unfoldable pub crossing : ℕ → Cell → Cell → ℕ → ℕ
crossing n s t c =
    cond (not (odd n) && differ (black s) (black t))
    (cond (starts_other c s) 1 n)
    (cond (free c 1 s t) 1 n)

-- the column after which an inner split cuts: that of s, or the second where s is in the first
abbrev pub inner_column : Cell → ℕ
inner_column s = cond (ltb s.x 2) 2 s.x

-- the split after that column
unfoldable pub inner_split : ℕ → ℕ → Cell → Cell → Plan
inner_split m n s t = split m n s t (inner_column s) (crossing n s t (inner_column s))

-- s in column 1, t in column 2, t below s: split by rows, over the last column
unfoldable pub edge_split : ℕ → ℕ → Cell → Cell → Plan
edge_split m n s t = moving turned_cell (λ a b. split n m a b s.y m) s t

-- s in column 1, t in column 2: a wrap where they stand in one row, else a split by rows, mirrored in y where t is above s
unfoldable pub at_edge : ℕ → ℕ → Cell → Cell → Plan
at_edge m n s t =
    cond (eqb s.y t.y) (wrapped m n s t)
    (cond (ltb t.y s.y) (moving (mirror_y n) (edge_split m n) s t)
    (edge_split m n s t))

-- m even, n odd, s black, t white
unfoldable pub bridged : ℕ → ℕ → Cell → Cell → ℕ → Plan
bridged m n s t c =
    cond (leb 3 s.y && leb 3 t.y) (bridge m n s t c)
    (cond (leb (s.y + 2) n && leb (t.y + 2) n) (moving (mirror_y n) (λ a b. bridge m n a b c) s t)
    (cond (ltb s.y t.y) (moving turned_cell (inner_split n m) s t)
    (reversed_plan (moving turned_cell (inner_split n m) t s))))

-- four rows or more, s left of t and no further from it in rows than in columns
unfoldable pub four_rows : ℕ → ℕ → Cell → Cell → Plan
four_rows m n s t =
    cond (eqb t.x 2) (at_edge m n s t)
    (cond (eqb (s.x + 1) m) (moving (mirror_x m) (λ a b. reversed_plan (at_edge m n b a)) s t)
    (cond (odd n && critical m s t)
    (cond (eqb (s.x + 1) t.x && odd s.x) (wrapped m n s t) (bridged m n s t (s.x + s.x % 2)))
    (inner_split m n s t)))

-- m not less than n, s not right of t
unfoldable pub wide : ℕ → ℕ → Cell → Cell → Plan
wide m n s t =
    cond (straight n) (One (forth s t t))
    (cond (eqb n 2) (two_rows m s t)
    (cond (corner m n s) (One (forth s (cell (m + 1 - s.x) (n + 1 - s.y)) t))
    (cond (corner m n t) (One (back t (cell (m + 1 - t.x) (n + 1 - t.y)) s))
    (cond (eqb n 3) (three_rows m s t)
    (cond (steep s t) (moving turned_cell (left_first (four_rows n m)) s t)
    (four_rows m n s t))))))

-- the panel turned where it is higher than wide
unfoldable pub plan_of : ℕ → ℕ → Cell → Cell → Plan
plan_of m n s t = cond (ltb m n) (moving turned_cell (left_first (wide n m)) s t) (left_first (wide m n) s t)
