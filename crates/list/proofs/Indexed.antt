-- The cell with the number i of a list: which bytes it is, and what it has of what is known of all cells or of each and those before it.
use Prim.Native.Nat.{ℕ, zero, suc, ◌+◌, ◌*◌, ◌<◌}
use native.Mathlib.Omega.{arith}
use mathlib.Core.Path.{◌≡◌, refl, sym, ap, ◌∙◌}
use mathlib.Core.Bool.{Bool, true, false, ◌||◌, or-true}
use mathlib.Core.Logic.{◌≢◌}
use mathlib.Core.List.{List, [], ◌∷◌}
use lib.ListN.{length, take, get_or}
use Rattle.grid.specs.declared.Panel.{Panel}
use Rattle.grid.specs.declared.Cell.{Cell}
use Rattle.grid.specs.Panel.{cell, OnPanel, same_cell}
use Rattle.grid.specs.Track.{All, Once}
use Rattle.grid.specs.Bytes.{cells_in}
use Rattle.grid.proofs.Facts.{eq_same}
use Rattle.list.specs.List.{cell_at, nth, all_on, among, none_twice}
use Rattle.list.proofs.Cells.{length_cells}
use Rattle.list.proofs.Tracks.{all_on_lem, once, is_not_among}

cell_at_index : (b : List ℕ) (i : ℕ) → 2 * i + 1 < length b → cell_at b (2 * i) ≡ nth (cells_in b) i
cell_at_index [] i h = absurd (omega arith)
cell_at_index (x ∷ []) i h = absurd (omega arith)
cell_at_index (x ∷ y ∷ b) zero h = refl
cell_at_index (x ∷ y ∷ b) (suc i) h =
    let two : 2 * suc i ≡ suc (suc (2 * i)) = omega arith in
    let more : suc (suc (2 * i)) + 1 ≡ suc (suc (2 * i + 1)) = omega arith in
    ap (cell_at (x ∷ y ∷ b)) two ∙ ap (λ (j : ℕ). cell (get_or b (2 * i) 0) (get_or (x ∷ y ∷ b) j 0)) more ∙ cell_at_index b i (omega arith)

module _ (b : List ℕ) (i : ℕ) (h : i < length (cells_in b)) where
  pub two_bytes : 2 * i + 1 < length b
  two_bytes = omega (arith, length_cells b)

  pub cell_index : cell_at b (2 * i) ≡ nth (cells_in b) i
  cell_index = cell_at_index b i two_bytes

-- ---- what is known of all

all_index : {P : Cell → Type 0} {l : List Cell} → All P l → (i : ℕ) → i < length l → P (nth l i)
all_index All.none i h = absurd (omega arith)
all_index (All.more o r) zero h = o
all_index (All.more o r) (suc i) h = all_index r i (omega arith)

pub on_index : (p : Panel) (l : List Cell) (i : ℕ) → all_on p l ≡ true → i < length l → OnPanel p (nth l i)
on_index p l i e h = all_index (all_on_lem p l e) i h

once_index : {l : List Cell} → Once l → (i : ℕ) → i < length l → All (λ d. nth l i ≢ d) (take i l)
once_index Once.none i h = absurd (omega arith)
once_index (Once.more a r) zero h = All.none
once_index (Once.more a r) (suc i) h = All.more (λ e. all_index a i (omega arith) (sym e)) (once_index r i (omega arith))

-- where no cell stands twice, the one at an index stands nowhere before it
pub new_index : (l : List Cell) (i : ℕ) → none_twice l ≡ true → i < length l → among (nth l i) (take i l) ≡ false
new_index l i e h = is_not_among (once_index (once l e) i h)

-- it stands in the list
pub among_index : (l : List Cell) (i : ℕ) → i < length l → among (nth l i) l ≡ true
among_index [] i h = absurd (omega arith)
among_index (c ∷ l) zero h = ap (λ (b : Bool). b || among c l) (eq_same {a = c} refl)
among_index (c ∷ l) (suc i) h =
    ap (λ (b : Bool). same_cell (nth l i) c || b) (among_index l i (omega arith)) ∙ or-true (same_cell (nth l i) c)
