-- Document 02, R-8: where a probe (a cell that inspection touches) stands on a list of cells, the nearest cell of the list to it, how many cells
-- of the list one walk for all probes reads; and what a sheet has at its 64 places.
use Rattle.std.specs.Prelude.{ℕ, suc, ◌-◌, max, Bool, true, cond, ◌&&◌, List, [], ◌∷◌, ◌++◌, map, leb, eqb, length, replicate}
use Rattle.grid.specs.declared.Cell.{Cell}
use Rattle.grid.specs.Panel.{cell, same_cell}
use Rattle.list.specs.List.{squared_distance, among}

-- the position of a cell in a list whose first cell has the position k, 0 where it does not stand in it
abbrev pub position_from : ℕ → Cell → List Cell → ℕ
position_from k c [] = 0
position_from k c (d ∷ l) = cond (same_cell c d) k (position_from (suc k) c l)

-- the same, counted from 1
abbrev pub position : Cell → List Cell → ℕ
position c l = position_from 1 c l

-- the nearest to c of a cell and those that follow it, by squared distance, the earliest of equals
abbrev pub nearest_from : Cell → Cell → List Cell → Cell
nearest_from c a [] = a
nearest_from c a (b ∷ l) = nearest_from c (cond (leb (squared_distance c a) (squared_distance c b)) a b) l

-- the same of a list; (0, 0) where it is empty
abbrev pub nearest : Cell → List Cell → Cell
nearest c [] = cell 0 0
nearest c (a ∷ l) = nearest_from c a l

-- every probe is on the list
abbrev pub all_among : List Cell → List Cell → Bool
all_among [] l = true
all_among (c ∷ q) l = among c l && all_among q l

-- the furthest position of the probes, 0 where there is none
abbrev pub furthest : List Cell → List Cell → ℕ
furthest [] l = 0
furthest (c ∷ q) l = max (position c l) (furthest q l)

-- how many cells of the list are read to find the probes: up to the furthest position if every probe is on the list, else all
abbrev pub cells_read : List Cell → List Cell → ℕ
cells_read q l = cond (all_among q l) (furthest q l) (length l)

-- ---- a sheet

-- how many probes it has places for
abbrev pub places : ℕ
places = 64

-- the places: one for each of a list, and z at the unused ones
abbrev pub placed {ℓ} : {A : Type ℓ} → A → List A → List A
placed z l = l ++ replicate (places - length l) z

-- the positions of the probes on a list
abbrev pub positions : List Cell → List Cell → List ℕ
positions q l = placed 0 (map (λ c. position c l) q)

-- the nearest cell of the list for a missed probe, (0, 0) for a found one
abbrev pub nearest_missed : List Cell → Cell → Cell
nearest_missed l c = cond (eqb (position c l) 0) (nearest c l) (cell 0 0)

-- the same for every probe
abbrev pub nearest_cells : List Cell → List Cell → List Cell
nearest_cells q l = placed (cell 0 0) (map (nearest_missed l) q)
