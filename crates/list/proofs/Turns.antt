-- One turn of each loop over the list: the test of the cell at a byte comes before the tests of the cells behind it, and at the end no
-- test is left.
use Prim.Native.Nat.{ℕ, ◌+◌, ◌-◌, ◌*◌, ◌/◌, ◌≤◌, ◌<◌}
use native.Mathlib.Omega.{arith}
use mathlib.Core.Path.{◌≡◌, refl, ◌∙◌}
use mathlib.Core.Bool.{true, ◌&&◌}
use mathlib.Core.List.{List}
use lib.ListN.{length, drop}
use Rattle.grid.specs.Panel.{neighbours}
use Rattle.grid.specs.Bytes.{cells_in}
use Rattle.list.specs.List.{all_steps, cell_at}
use Rattle.list.proofs.Cells.{pairs_more, pairs_end}

module _ (b : List ℕ) (i : ℕ) where
  pub step_turn : i + 3 < length b
      → all_steps (cells_in (drop i b)) ≡ (neighbours (cell_at b i) (cell_at b (i + 2)) && all_steps (cells_in (drop (i + 2) b)))
  step_turn h = pairs_more all_steps (λ a c k. neighbours a c && k) (λ a c r. refl) b i h

  pub step_end : length b ≤ i + 3 → all_steps (cells_in (drop i b)) ≡ true
  step_end h = pairs_end all_steps true refl (λ a. refl) b i h

-- the same from the cell before the one with the number i, from 0
module _ (b : List ℕ) (i : ℕ) where
  pub step_turn_at : 1 ≤ i → i < length b / 2
      → all_steps (cells_in (drop (2 * (i - 1)) b)) ≡ (neighbours (cell_at b (2 * (i - 1))) (cell_at b (2 * i)) && all_steps (cells_in (drop (2 * (i + 1 - 1)) b)))
  step_turn_at g h =
      let next : 2 * (i - 1) + 2 ≡ 2 * i = omega arith in
      let after : 2 * (i - 1) + 2 ≡ 2 * (i + 1 - 1) = omega arith in
      step_turn b (2 * (i - 1)) (omega arith)
      ∙ (λ t. neighbours (cell_at b (2 * (i - 1))) (cell_at b (next t)) && all_steps (cells_in (drop (after t) b)))

  pub step_end_at : length b / 2 ≤ i → all_steps (cells_in (drop (2 * (i - 1)) b)) ≡ true
  step_end_at h = step_end b (2 * (i - 1)) (omega arith)
