-- A list of cells as bytes, and back: lengths, appended lists, and the cells read from the front of a buffer.
use Prim.Native.Nat.{ℕ, ◌*◌}
use mathlib.Core.Path.{◌≡◌, refl, ap, ◌∙◌}
use mathlib.Core.List.{List, [], ◌∷◌, ◌++◌}
use native.Mathlib.Omega.{arith}
use lib.ListN.{length}
use lib.Seq.{take_at}
use Rattle.grid.specs.declared.Cell.{Cell}
use Rattle.grid.specs.Bytes.{bytes, cells_in, front}

pub bytes_append : (l k : List Cell) → bytes (l ++ k) ≡ bytes l ++ bytes k
bytes_append [] k = refl
bytes_append (c ∷ l) k = ap (λ (b : List ℕ). c.x ∷ c.y ∷ b) (bytes_append l k)

pub length_bytes : (l : List Cell) → length (bytes l) ≡ 2 * length l
length_bytes [] = refl
length_bytes (c ∷ l) = let h = length_bytes l in omega arith

pub cells_bytes : (l : List Cell) → cells_in (bytes l) ≡ l
cells_bytes [] = refl
cells_bytes (c ∷ l) = ap (λ (k : List Cell). c ∷ k) (cells_bytes l)

-- the cells at the front of a buffer that begins with a list's bytes are the list
pub front_bytes : (l : List Cell) (r : List ℕ) → front (length l) (bytes l ++ r) ≡ l
front_bytes l r = ap cells_in (take_at (bytes l) r (2 * length l) (length_bytes l)) ∙ cells_bytes l
