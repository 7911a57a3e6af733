-- The cells that a list of the panel's cells without repeats leaves uncovered weigh what the panel weighs less what the list weighs, whatever the
-- weights: so many are left as the panel has more than the list, of each colour and in all.
use Prim.Native.Nat.{ℕ, zero, suc, ◌+◌}
use mathlib.Core.Path.{◌≡◌, refl, sym, ap, ◌∙◌}
use mathlib.Core.Bool.{Bool, true, false, cond, ◌||◌, Bool-discrete}
use mathlib.Core.Logic.{ite}
use mathlib.Core.List.{List, [], ◌∷◌, ◌++◌, filter}
use native.Mathlib.Omega.{arith}
use native.Mathlib.Nat.{add-zero}
use Rattle.grid.specs.declared.Panel.{Panel}
use Rattle.grid.specs.declared.Cell.{Cell}
use Rattle.grid.specs.Panel.{OnPanel, cell, same_cell}
use Rattle.grid.specs.Reading.{run, row, reading}
use Rattle.grid.specs.Track.{All, Once}
use Rattle.grid.proofs.Facts.{same_eq, same_ne}
use Rattle.grid.proofs.Tests.{both_branches}
use Rattle.grid.proofs.Track.{all_map}
use Rattle.count.specs.Longest.{weight, partial_sum, columns_weight, panel_weight}
use Rattle.count.proofs.Pigeon.{sum_same, sum_first, sum_swap, put, put_here, put_there, in_columns, without, taken}
use Rattle.list.specs.List.{among}
use Rattle.cold.specs.Cold.{uncovered}

-- ---- all cells of the panel

module _ (w : Cell → ℕ) where
  weight_append : (k l : List Cell) → weight w (k ++ l) ≡ weight w k + weight w l
  weight_append [] l = omega arith
  weight_append (c ∷ k) l = omega (arith, weight_append k l)

  run_weight : (g : ℕ → List Cell) (x k : ℕ) → weight w (run g (suc x) k) ≡ partial_sum (λ i. weight w (g i)) x k
  run_weight g x zero = refl
  run_weight g x (suc k) =
      weight_append (g (suc x)) _ ∙ ap (λ (z : ℕ). weight w (g (suc x)) + z) (run_weight g (suc x) k) ∙ sym (sum_first (λ i. weight w (g i)) x k)

  row_weight : (p : Panel) (y : ℕ) → weight w (row p y) ≡ partial_sum (λ x. w (cell x y)) 0 p.width
  row_weight p y = run_weight (λ x. cell x y ∷ []) 0 p.width ∙ sum_same _ _ 0 p.width (λ i _ _. add-zero (w (cell i y)))

  reading_weight : (p : Panel) → weight w (reading p) ≡ panel_weight w p
  unfolding columns_weight
  reading_weight p =
      run_weight (row p) 0 p.height ∙ sum_same _ _ 0 p.height (λ y _ _. row_weight p y)
      ∙ sum_swap (λ y x. w (cell x y)) 0 p.height 0 p.width

-- ---- those that are left

-- a cell of the list weighs 0, another one what it did
without_among : (l : List Cell) (w : Cell → ℕ) (d : Cell) → without l w d ≡ cond (among d l) 0 (w d)
without_among [] w d = refl
without_among (c ∷ l) w d = without_among l (put c 0 w) d ∙ step (same_cell d c) refl
  where
    step : (b : Bool) → same_cell d c ≡ b → cond (among d l) 0 (put c 0 w d) ≡ cond (b || among d l) 0 (w d)
    step true e =
        ap (cond (among d l) 0) (put_here c 0 w d (sym (same_eq d c e)))
        ∙ both_branches (λ (k : ℕ). k ≡ 0) (among d l) 0 0 (λ _. refl) (λ _. refl)
    step false e = ap (cond (among d l) 0) (put_there c 0 w d (λ q. same_ne d c e (sym q)))

left_weight : (w : Cell → ℕ) (l k : List Cell) → weight w (filter (λ c. Bool-discrete (among c l) false) k) ≡ weight (without l w) k
left_weight w l [] = refl
left_weight w l (c ∷ k) = step _ (among c l) (without_among l w c) (left_weight w l k)
  where
    step : (rest : List Cell) {v : ℕ} (b : Bool) → without l w c ≡ cond b 0 (w c) → weight w rest ≡ v
        → weight w (ite {C = List Cell} (Bool-discrete b false) (c ∷ rest) rest) ≡ without l w c + v
    step rest true e h = omega (arith, e, h)
    step rest false e h = omega (arith, e, h)

-- what is left and the list make the panel
pub left_over : (w : Cell → ℕ) (p : Panel) {l : List Cell} → Once l → All (OnPanel p) l → weight w (uncovered p l) + weight w l ≡ panel_weight w p
left_over w p {l} o q =
    omega (arith, left_weight w l (reading p), reading_weight (without l w) p, taken w 0 p.width p.height o (all_map (λ c. in_columns) q))
