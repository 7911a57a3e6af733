-- The cells that bytes hold, read from a byte on: the next cell and those behind it, or none where no two bytes are left; how many there
-- are, their coordinates, and that an even number of bytes is its cells; and what goes by each two successive cells, as the steps do and
-- the letters of a record.
use Prim.Native.Nat.{ℕ, suc, ◌+◌, ◌/◌, ◌%◌, ◌≤◌, ◌<◌}
use native.Mathlib.Numerals.{add-one, add-two}
use native.Mathlib.Omega.{arith}
use mathlib.Core.Path.{◌≡◌, refl, sym, ap, subst⁻¹, ◌∙◌}
use mathlib.Core.List.{List, [], ◌∷◌}
use lib.ListN.{length, drop, get_or, set, length-drop}
use lib.Seq.{drop-cons}
use Rattle.grid.specs.declared.Cell.{Cell}
use Rattle.grid.specs.Bytes.{InBytes, bytes, cells_in}
use Rattle.list.specs.List.{cell_at, with_cells}

pub cells_next : (b : List ℕ) (i : ℕ) → i + 1 < length b → cells_in (drop i b) ≡ cell_at b i ∷ cells_in (drop (i + 2) b)
cells_next b i h =
    ap cells_in (drop-cons b i 0 (omega arith))
    ∙ ap (λ (r : List ℕ). cells_in (get_or b i 0 ∷ r)) (drop-cons b (suc i) 0 (omega arith))
    ∙ rw (add-one, add-two)

pub length_cells : (b : List ℕ) → length (cells_in b) ≡ length b / 2
length_cells [] = refl
length_cells (x ∷ []) = refl
length_cells (x ∷ y ∷ b) = let e = length_cells b in omega arith

-- the cell at a byte has bytes for coordinates
pub cell_bytes : (b : List ℕ) → ((i : ℕ) → get_or b i 0 < 256) → {c : Cell} (i : ℕ) → c ≡ cell_at b i → InBytes c
cell_bytes b byte i e = subst⁻¹ InBytes e (record { across = omega (arith, byte i); down = omega (arith, byte (i + 1)) })

-- an even number of bytes is its cells
pub bytes_cells : (b : List ℕ) → length b % 2 ≡ 0 → bytes (cells_in b) ≡ b
bytes_cells [] e = refl
bytes_cells (x ∷ []) e = absurd (omega arith)
bytes_cells (x ∷ y ∷ b) e = ap (λ (k : List ℕ). x ∷ y ∷ k) (bytes_cells b (omega arith))

-- a cell put into the first two bytes of a buffer
pub put_first : (b : List ℕ) (c : Cell) → 2 ≤ length b → set (set b 0 c.x) 1 c.y ≡ with_cells (c ∷ []) b
put_first [] c h = absurd (omega arith)
put_first (x ∷ []) c h = absurd (omega arith)
put_first (x ∷ y ∷ b) c h = refl

-- of what goes by each two successive cells: the first two of the cells from i, and the rest
pub pairs_more {ℓ} : {X : Type ℓ} (F : List Cell → X) (G : Cell → Cell → X → X)
    → ((a b : Cell) (r : List Cell) → F (a ∷ b ∷ r) ≡ G a b (F (b ∷ r)))
    → (l : List ℕ) (i : ℕ) → i + 3 < length l
    → F (cells_in (drop i l)) ≡ G (cell_at l i) (cell_at l (i + 2)) (F (cells_in (drop (i + 2) l)))
pairs_more F G step l i h =
    let b = cells_next l (i + 2) (omega arith) in
    ap F (cells_next l i (omega arith) ∙ ap (λ (k : List Cell). cell_at l i ∷ k) b)
    ∙ step (cell_at l i) (cell_at l (i + 2)) (cells_in (drop (i + 2 + 2) l))
    ∙ ap (λ (k : List Cell). G (cell_at l i) (cell_at l (i + 2)) (F k)) (sym b)

-- the same where less than two cells are left
pub pairs_end {ℓ} : {X : Type ℓ} (F : List Cell → X) (z : X) → F [] ≡ z → ((a : Cell) → F (a ∷ []) ≡ z)
    → (l : List ℕ) (i : ℕ) → length l ≤ i + 3 → F (cells_in (drop i l)) ≡ z
pairs_end F z none one l i h = few (drop i l) (omega (arith, length-drop i l))
  where
    few : (k : List ℕ) → length k ≤ 3 → F (cells_in k) ≡ z
    few [] e = none
    few (x ∷ []) e = none
    few (x ∷ y ∷ []) e = one (record { x = x; y = y })
    few (x ∷ y ∷ w ∷ []) e = one (record { x = x; y = y })
    few (x ∷ y ∷ w ∷ v ∷ k) e = absurd (omega arith)
