-- Document 02, R-12: the two cells beside a step, and an edit, which puts such a detour into a list of cells or takes it out. Places count from 1.
use Rattle.std.specs.Prelude.{ℕ, ◌+◌, ◌-◌, ◌*◌, Bool, not, cond, ◌&&◌, List, [], ◌∷◌, ◌++◌, leb, length, take, drop, replicate}
use Rattle.grid.specs.declared.Panel.{Panel}
use Rattle.grid.specs.declared.Cell.{Cell}
use Rattle.grid.specs.Panel.{cell, on_panel, same_cell, neighbours}
use Rattle.grid.specs.Bytes.{bytes}
use Rattle.list.specs.List.{nth, among}
use Rattle.detour.specs.declared.Kind.{Kind}
use Rattle.detour.specs.declared.Kind.TheVariants.{Bulge, Press}
use Rattle.detour.specs.declared.Side.{Side}
use Rattle.detour.specs.declared.Side.TheVariants.{Left, Right}
use Rattle.detour.specs.declared.Edit.{Edit}

-- of a bulge the one, of a press the other
abbrev pub of_kind : {A : Type 0} → Kind → A → A → A
of_kind Bulge a b = a
of_kind Press a b = b

-- on the left the one, on the right the other
abbrev pub of_side : {A : Type 0} → Side → A → A → A
of_side Left a b = a
of_side Right a b = b

-- the cell beside c, left of the way from a to b. y grows downward: going right, left of the way is up
abbrev pub left_of : Cell → Cell → Cell → Cell
left_of a b c = cell (c.x + b.y - a.y) (c.y + a.x - b.x)

-- the cell beside c, left or right of the way from a to b: right of the way there is left of the way back
abbrev pub cell_beside : Side → Cell → Cell → Cell → Cell
cell_beside side a b c = of_side side (left_of a b c) (left_of b a c)

-- the cell at a place of a list
abbrev pub cell_no : List Cell → ℕ → Cell
cell_no l k = nth l (k - 1)

-- the detour of the step from a to b: the cells beside them
abbrev pub detour : Side → Cell → Cell → List Cell
detour side a b = cell_beside side a b a ∷ cell_beside side a b b ∷ []

-- a bulge at place k: a step a, b becomes a, a', b', b
abbrev pub bulged : Side → ℕ → List Cell → List Cell
bulged side k l = take k l ++ (detour side (cell_no l k) (cell_no l (k + 1)) ++ drop k l)

-- a press at place k: a, a', b', b becomes a, b
abbrev pub pressed : ℕ → List Cell → List Cell
pressed k l = take k l ++ drop (k + 2) l

-- a cell that a detour may take: on the panel, and not on the track
abbrev pub is_free : Panel → List Cell → Cell → Bool
is_free p l c = on_panel p c && not (among c l)

-- the step at place k is there, and both cells of its detour may be taken
abbrev pub can_bulge : Panel → Side → ℕ → List Cell → Bool
can_bulge p side k l =
    leb 1 k && (leb (k + 1) (length l)
    && (is_free p l (cell_beside side (cell_no l k) (cell_no l (k + 1)) (cell_no l k))
    && is_free p l (cell_beside side (cell_no l k) (cell_no l (k + 1)) (cell_no l (k + 1)))))

-- a, a', b', b stand from place k on, where a and b are neighbours and a' and b' the detour of the step from a to b
abbrev pub is_detour : Side → ℕ → List Cell → Bool
is_detour side k l =
    leb 1 k && (leb (k + 3) (length l)
    && (neighbours (cell_no l k) (cell_no l (k + 3))
    && (same_cell (cell_no l (k + 1)) (cell_beside side (cell_no l k) (cell_no l (k + 3)) (cell_no l k))
    && same_cell (cell_no l (k + 2)) (cell_beside side (cell_no l k) (cell_no l (k + 3)) (cell_no l (k + 3))))))

-- ---- an edit: a bulge or a press, at a place and on a side

-- a bulge
abbrev pub bulge_at : ℕ → Side → Edit
bulge_at k side = record { place = k; kind = Bulge; side = side }

-- a press, on the side where the detour is
abbrev pub press_at : ℕ → List Cell → Edit
press_at k l = record { place = k; kind = Press; side = cond (is_detour Left k l) Left Right }

-- the list after an edit
abbrev pub edited : Edit → List Cell → List Cell
edited e l = of_kind e.kind (bulged e.side e.place l) (pressed e.place l)

-- it can be made: the step to bulge is there with a free detour, or the detour to press is there
abbrev pub can_edit : Panel → Edit → List Cell → Bool
can_edit p e l = of_kind e.kind (can_bulge p e.side e.place l) (is_detour e.side e.place l)

-- the opposite edit: at the same place, on the same side
abbrev pub opposite : Edit → Edit
opposite e = record { place = e.place; kind = of_kind e.kind Press Bulge; side = e.side }

-- a list of cells in front of a buffer of n bytes, and zeros in all bytes behind it
abbrev pub with_zeros : List Cell → ℕ → List ℕ
with_zeros l n = bytes l ++ replicate (n - 2 * length l) 0
