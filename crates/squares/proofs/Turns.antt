-- One turn of the loop over the list: the cell behind the one at a byte, and the corners behind it; at the end none is left.
use Prim.Native.Nat.{ℕ, ◌+◌, ◌-◌, ◌*◌, ◌/◌, ◌≤◌, ◌<◌}
use native.Mathlib.Omega.{arith}
use mathlib.Core.Path.{◌≡◌, sym, ap, ◌∙◌}
use mathlib.Core.Bool.{Bool, cond}
use mathlib.Core.List.{List, ◌∷◌}
use lib.ListN.{length, drop, length-drop}
use Rattle.grid.specs.declared.Cell.{Cell}
use Rattle.grid.specs.Bytes.{cells_in}
use Rattle.list.specs.List.{cell_at}
use Rattle.list.proofs.Cells.{cells_next, length_cells}
use Rattle.squares.specs.Squares.{corner_between, corners}
use Rattle.squares.proofs.Counted.{corners_few}

module _ (b : List ℕ) (i : ℕ) where
  pub corner_turn : i + 5 < length b
      → corners (cells_in (drop i b)) ≡ cond (corner_between (cell_at b i) (cell_at b (i + 4))) 1 0 + corners (cells_in (drop (i + 2) b))
  corner_turn h =
      ap corners (cells_next b i (omega arith) ∙ ap (λ (k : List Cell). cell_at b i ∷ k) behind)
      ∙ ap (λ (k : List Cell). cond (corner_between (cell_at b i) (cell_at b (i + 4))) 1 0 + corners k) (sym behind)
    where
      behind : cells_in (drop (i + 2) b) ≡ cell_at b (i + 2) ∷ cell_at b (i + 4) ∷ cells_in (drop (i + 4 + 2) b)
      behind =
          let four : i + 2 + 2 ≡ i + 4 = omega arith in
          cells_next b (i + 2) (omega arith)
          ∙ ap (λ (k : ℕ). cell_at b (i + 2) ∷ cells_in (drop k b)) four
          ∙ ap (λ (k : List Cell). cell_at b (i + 2) ∷ k) (cells_next b (i + 4) (omega arith))

  -- the same by a test that says whether that cell is a corner
  pub turn_counted : (r : Bool) → i + 5 < length b → r ≡ corner_between (cell_at b i) (cell_at b (i + 4))
      → corners (cells_in (drop i b)) ≡ cond r 1 0 + corners (cells_in (drop (i + 2) b))
  turn_counted r h e = corner_turn h ∙ ap (λ (t : Bool). cond t 1 0 + corners (cells_in (drop (i + 2) b))) (sym e)

  pub corner_end : length b ≤ i + 5 → corners (cells_in (drop i b)) ≡ 0
  corner_end h = omega (arith, corners_few (cells_in (drop i b)), length_cells (drop i b), length-drop i b)

-- the same from two cells before the one with the number i, from 0
module _ (b : List ℕ) (i : ℕ) where
  pub turn_counted_at : (r : Bool) → 2 ≤ i → i < length b / 2 → r ≡ corner_between (cell_at b (2 * (i - 2))) (cell_at b (2 * i))
      → corners (cells_in (drop (2 * (i - 2)) b)) ≡ cond r 1 0 + corners (cells_in (drop (2 * (i + 1 - 2)) b))
  turn_counted_at r g h e =
      let there : 2 * i ≡ 2 * (i - 2) + 4 = omega arith in
      let after : 2 * (i - 2) + 2 ≡ 2 * (i + 1 - 2) = omega arith in
      turn_counted b (2 * (i - 2)) r (omega arith) (e ∙ ap (λ (k : ℕ). corner_between (cell_at b (2 * (i - 2))) (cell_at b k)) there)
      ∙ ap (λ (k : ℕ). cond r 1 0 + corners (cells_in (drop k b))) after

  pub corner_end_at : length b / 2 ≤ i → corners (cells_in (drop (2 * (i - 2)) b)) ≡ 0
  corner_end_at h = corner_end b (2 * (i - 2)) (omega arith)
