-- A cell stands in a list where it is that of some pair.
use mathlib.Core.Path.{◌≡◌, refl, ap}
use mathlib.Core.Bool.{Bool, ◌||◌}
use mathlib.Core.List.{List, [], ◌∷◌, map}
use Prim.Native.Nat.{ℕ}
use Rattle.std.specs.List.{list_any}
use Rattle.grid.specs.declared.Cell.{Cell}
use Rattle.grid.specs.Panel.{same_cell}
use Rattle.grid.specs.Bytes.{cell_of}
use Rattle.list.specs.List.{among}

pub among_pairs : (c : Cell) (b : List (List ℕ)) → list_any (λ q. same_cell c (cell_of q)) b ≡ among c (map cell_of b)
among_pairs c [] = refl
among_pairs c (q ∷ b) = ap (λ (r : Bool). same_cell c (cell_of q) || r) (among_pairs c b)
