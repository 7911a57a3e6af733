-- A cell list is bytes: x then y for each cell. And where a part of a slice of bytes begins.
use Rattle.std.specs.Prelude.{ℕ, ◌+◌, ◌*◌, ◌≤◌, ◌≡◌, List, [], ◌∷◌, take, get_or}
use Rattle.std.specs.Borrow.{Bor}
use Rattle.grid.specs.declared.Cell.{Cell}

-- a cell whose coordinates are bytes, as those of a cell in a list are
pub record InBytes (c : Cell) : Type 0 where
  pub across : c.x ≤ 255
  pub down : c.y ≤ 255

-- the bytes of a list of cells
abbrev pub bytes : List Cell → List ℕ
bytes [] = []
bytes (c ∷ l) = c.x ∷ c.y ∷ bytes l

-- the cell of two bytes
abbrev pub cell_of : List ℕ → Cell
cell_of b = record { x = get_or b 0 0; y = get_or b 1 0 }

-- the cells that bytes hold; a last byte without its partner is none
abbrev pub cells_in : List ℕ → List Cell
cells_in [] = []
cells_in (x ∷ []) = []
cells_in (x ∷ y ∷ b) = record { x = x; y = y } ∷ cells_in b

-- the list read from the front of a buffer, for k cells
abbrev pub front : ℕ → List ℕ → List Cell
front k b = cells_in (take (2 * k) b)

-- these bytes as a part of a slice, from its byte k on: in the same block of memory, k bytes behind the slice's front
pub record PartOf (slice : Bor (List ℕ)) (k : ℕ) (content : List ℕ) (part : Bor (List ℕ)) : Type 0 where
  pub bytes : part.now ≡ content
  pub block : part.ref_ptr.0 ≡ slice.ref_ptr.0
  pub place : part.ref_ptr.1 ≡ slice.ref_ptr.1 + k
