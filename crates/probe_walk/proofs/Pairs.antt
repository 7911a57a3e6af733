-- A list of cells by its pairs of bytes: the cell of the pair with the number i, and what it has of what is known of all.
use Prim.Native.Nat.{ℕ, ◌*◌, ◌<◌}
use native.Mathlib.Omega.{arith}
use mathlib.Core.Path.{◌≡◌, sym, ap, subst⁻¹, ◌∙◌}
use mathlib.Core.Bool.{true}
use mathlib.Core.List.{List, [], map}
use lib.ListN.{length, get_or, length-map}
use Rattle.std.proofs.lemmas.List.{get_or-map}
use Rattle.grid.specs.declared.Panel.{Panel}
use Rattle.grid.specs.declared.Cell.{Cell}
use Rattle.grid.specs.Panel.{cell, OnPanel}
use Rattle.grid.specs.Bytes.{InBytes, cell_of, cells_in}
use Rattle.list.specs.List.{nth, all_on}
use Rattle.list.proofs.Cells.{cell_bytes}
use Rattle.list.proofs.Indexed.{cell_index, on_index}

module _ (b : List (List ℕ)) {l : List Cell} (e : map cell_of b ≡ l) where
  pub long : length l ≡ length b
  long = sym (ap length e) ∙ length-map b cell_of

  module _ (i : ℕ) (h : i < length b) {c : Cell} (f : c ≡ cell_of (get_or b i [])) where
    pub below : i < length l
    below = omega (arith, long)

    pub pair_cell : c ≡ nth l i
    pair_cell = f ∙ sym (get_or-map cell_of b i [] (cell 0 0) h) ∙ ap (λ (k : List Cell). get_or k i (cell 0 0)) e

    pub pair_inside : (p : Panel) → all_on p l ≡ true → OnPanel p c
    pair_inside p a = subst⁻¹ (OnPanel p) pair_cell (on_index p l i a below)

-- of a list of bytes
pub pair_bytes : (list : List ℕ) → ((i : ℕ) → get_or list i 0 < 256) → (b : List (List ℕ)) → map cell_of b ≡ cells_in list
    → (i : ℕ) → i < length b → {c : Cell} → c ≡ cell_of (get_or b i []) → InBytes c
pair_bytes list byte b e i h f = cell_bytes list byte (2 * i) (pair_cell b e i h f ∙ sym (cell_index list i (below b e i h f)))
