-- Legs and plans of legs: what the choosing functions of the code are said to give, and which cells they have. Draw's promise that it draws a longest
-- track does not rest on this file; which of them it draws does.
use Rattle.std.specs.Prelude.{ℕ, ◌+◌, ◌-◌, Bool, cond, not, List, [], ◌∷◌, ◌++◌, reverse}
use Rattle.grid.specs.declared.Cell.{Cell}
pub use Rattle.grid.specs.Panel.{cell}
use Rattle.corner.specs.Corner.{track_count}
use Rattle.corner.specs.Cells.{corner_cells}
use Rattle.plan.specs.declared.Leg.{Leg}
use Rattle.plan.specs.declared.Plan.{Plan}
use Rattle.plan.specs.declared.Plan.TheVariants.{One, Two, Three, Five}

-- where a leg starts
abbrev pub start : Leg → Cell
start g = cond g.back g.t g.a

-- where a leg stops
abbrev pub stop : Leg → Cell
stop g = cond g.back g.a g.t

-- the legs of a plan, in their order
abbrev pub legs : Plan → List Leg
legs (One g) = g ∷ []
legs (Two g h) = g ∷ h ∷ []
legs (Three g h i) = g ∷ h ∷ i ∷ []
legs (Five g h i j k) = g ∷ h ∷ i ∷ j ∷ k ∷ []

-- how many cells a leg's track has
abbrev pub leg_count : Leg → ℕ
leg_count g = track_count g.a g.b g.t

-- how many cells the tracks of some legs have
abbrev pub total : List Leg → ℕ
total [] = 0
total (g ∷ l) = leg_count g + total l

-- a leg's cells; walked back they are reversed
abbrev pub leg_cells : Leg → List Cell
leg_cells g = let l = corner_cells g.a g.b g.t in cond g.back (reverse l) l

-- the cells of some legs, one leg behind another
abbrev pub legs_cells : List Leg → List Cell
legs_cells [] = []
legs_cells (g ∷ l) = leg_cells g ++ legs_cells l

-- the leg from the corner a to the cell t, b being the opposite corner
abbrev pub forth : Cell → Cell → Cell → Leg
forth a b t = record { a = a; b = b; t = t; back = Bool.false }

-- the same leg, walked from t to a
abbrev pub back : Cell → Cell → Cell → Leg
back a b t = record { a = a; b = b; t = t; back = Bool.true }

-- a leg moved by a map of cells
abbrev pub moved_leg : (Cell → Cell) → Leg → Leg
moved_leg f g = record { a = f g.a; b = f g.b; t = f g.t; back = g.back }

-- a plan moved by a map of cells
abbrev pub moved_plan : (Cell → Cell) → Plan → Plan
moved_plan f (One g) = One (moved_leg f g)
moved_plan f (Two g h) = Two (moved_leg f g) (moved_leg f h)
moved_plan f (Three g h i) = Three (moved_leg f g) (moved_leg f h) (moved_leg f i)
moved_plan f (Five g h i j k) = Five (moved_leg f g) (moved_leg f h) (moved_leg f i) (moved_leg f j) (moved_leg f k)

-- a panel of width m mirrored in x
abbrev pub mirror_x : ℕ → Cell → Cell
mirror_x m c = record { x = m + 1 - c.x; y = c.y }

-- a panel of height n mirrored in y
abbrev pub mirror_y : ℕ → Cell → Cell
mirror_y n c = record { x = c.x; y = n + 1 - c.y }

-- a leg walked the other way
abbrev pub reversed_leg : Leg → Leg
reversed_leg g = record { a = g.a; b = g.b; t = g.t; back = not g.back }

-- a plan walked the other way: the last leg first
abbrev pub reversed_plan : Plan → Plan
reversed_plan (One g) = One (reversed_leg g)
reversed_plan (Two g h) = Two (reversed_leg h) (reversed_leg g)
reversed_plan (Three g h i) = Three (reversed_leg i) (reversed_leg h) (reversed_leg g)
reversed_plan (Five g h i j k) = Five (reversed_leg k) (reversed_leg j) (reversed_leg i) (reversed_leg h) (reversed_leg g)
