-- The bytes of a list in pairs: they are its cells, and what is tested of every pair is tested of every cell.
use Prim.Native.Nat.{ℕ, zero, suc, ◌/◌}
use native.Mathlib.Omega.{arith}
use mathlib.Core.Path.{◌≡◌, refl, ap}
use mathlib.Core.Bool.{Bool, ◌&&◌}
use mathlib.Core.List.{List, [], ◌∷◌, map}
use lib.ListN.{length}
use Rattle.std.specs.Simd.{first_chunks}
use Rattle.std.specs.List.{list_all}
use Rattle.grid.specs.declared.Panel.{Panel}
use Rattle.grid.specs.declared.Cell.{Cell}
use Rattle.grid.specs.Panel.{cell, on_panel}
use Rattle.grid.specs.Bytes.{cell_of, cells_in}
use Rattle.list.specs.List.{all_on}

pub cells_of_pairs : (k : ℕ) (b : List ℕ) → length b / 2 ≡ k → map cell_of (first_chunks 2 k b) ≡ cells_in b
cells_of_pairs zero [] e = refl
cells_of_pairs zero (x ∷ []) e = refl
cells_of_pairs zero (x ∷ y ∷ b) e = absurd (omega arith)
cells_of_pairs (suc k) [] e = absurd (omega arith)
cells_of_pairs (suc k) (x ∷ []) e = absurd (omega arith)
cells_of_pairs (suc k) (x ∷ y ∷ b) e = ap (λ (l : List Cell). cell x y ∷ l) (cells_of_pairs k b (omega arith))

pub all_on_pairs : (p : Panel) (b : List (List ℕ)) → list_all (λ q. on_panel p (cell_of q)) b ≡ all_on p (map cell_of b)
all_on_pairs p [] = refl
all_on_pairs p (q ∷ b) = ap (λ (r : Bool). on_panel p (cell_of q) && r) (all_on_pairs p b)
