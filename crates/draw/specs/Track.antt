-- Which longest track Draw draws: a list of cells by width, height, entry and exit alone.
use Rattle.std.specs.Prelude.{ℕ, Bool, cond, ◌&&◌, List, [], ◌∷◌, eqb}
use Rattle.grid.specs.declared.Cell.{Cell}
use Rattle.grid.specs.Panel.{same_cell}
use Rattle.plan.specs.Leg.{legs, legs_cells}
use Rattle.plan.specs.Plan.{plan_of}
use Rattle.table.specs.Table.{tabled}

-- 3 by 3, whose longest tracks stand in a table
abbrev pub is_three : ℕ → ℕ → Bool
is_three m n = eqb m 3 && eqb n 3

-- between different cells: the table's row on 3 by 3, else the plan's legs in order
abbrev pub track_between : ℕ → ℕ → Cell → Cell → List Cell
track_between m n s t = cond (is_three m n) (tabled s t) (legs_cells (legs (plan_of m n s t)))

-- between any two: equal ones are the one cell
unfoldable pub drawn_track : ℕ → ℕ → Cell → Cell → List Cell
drawn_track m n s t = cond (same_cell s t) (s ∷ []) (track_between m n s t)
