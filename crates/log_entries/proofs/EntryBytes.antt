-- The entries that bytes hold: how many there are; that they are those of each six bytes; the cells of a log; and what is tested of each entry or
-- of each two successive ones.
use Prim.Native.Nat.{ℕ, zero, suc, ◌/◌, ◌≤◌, ◌<◌}
use native.Mathlib.Omega.{arith}
use mathlib.Core.Path.{◌≡◌, refl, sym, ap, subst⁻¹, ◌∙◌}
use mathlib.Core.Bool.{Bool, true, ◌&&◌}
use mathlib.Core.List.{List, [], ◌∷◌}
use lib.ListN.{length, get_or, length-map, get_or-map}
use Rattle.std.specs.Simd.{first_chunks}
use Rattle.std.specs.List.{list_all}
use Rattle.grid.specs.declared.Panel.{Panel}
use Rattle.grid.specs.Panel.{cell, area, on_panel, OnPanel}
use Rattle.grid.proofs.Facts.{is_on}
use Rattle.list.specs.List.{nth, all_on}
use Rattle.list.proofs.Indexed.{on_index}
use Rattle.scratch.specs.Scratch.{place}
use Rattle.scratch.proofs.Places.{place_in}
use Rattle.log_entries.specs.declared.Entry.{Entry}
use Rattle.log_entries.specs.Log.{entry, entry_of, entries_of, entries_in, nth_entry, cells_of}

pub length_entries : (b : List ℕ) → length (entries_in b) ≡ length b / 6
length_entries (x ∷ y ∷ a ∷ b ∷ c ∷ d ∷ l) = let e = length_entries l in omega arith
length_entries (x ∷ y ∷ a ∷ b ∷ c ∷ []) = refl
length_entries (x ∷ y ∷ a ∷ b ∷ []) = refl
length_entries (x ∷ y ∷ a ∷ []) = refl
length_entries (x ∷ y ∷ []) = refl
length_entries (x ∷ []) = refl
length_entries [] = refl

-- ---- six bytes each

pub entries_of_chunks : (k : ℕ) (b : List ℕ) → length b / 6 ≡ k → entries_of (first_chunks 6 k b) ≡ entries_in b
entries_of_chunks (suc k) (x ∷ y ∷ a ∷ b ∷ c ∷ d ∷ l) e =
    ap (λ (r : List Entry). entry_of (x ∷ y ∷ a ∷ b ∷ c ∷ d ∷ []) ∷ r) (entries_of_chunks k l (omega arith))
entries_of_chunks zero (x ∷ y ∷ a ∷ b ∷ c ∷ d ∷ l) e = absurd (omega arith)
entries_of_chunks zero (x ∷ y ∷ a ∷ b ∷ c ∷ []) e = refl
entries_of_chunks zero (x ∷ y ∷ a ∷ b ∷ []) e = refl
entries_of_chunks zero (x ∷ y ∷ a ∷ []) e = refl
entries_of_chunks zero (x ∷ y ∷ []) e = refl
entries_of_chunks zero (x ∷ []) e = refl
entries_of_chunks zero [] e = refl
entries_of_chunks (suc k) (x ∷ y ∷ a ∷ b ∷ c ∷ []) e = absurd (omega arith)
entries_of_chunks (suc k) (x ∷ y ∷ a ∷ b ∷ []) e = absurd (omega arith)
entries_of_chunks (suc k) (x ∷ y ∷ a ∷ []) e = absurd (omega arith)
entries_of_chunks (suc k) (x ∷ y ∷ []) e = absurd (omega arith)
entries_of_chunks (suc k) (x ∷ []) e = absurd (omega arith)
entries_of_chunks (suc k) [] e = absurd (omega arith)

pub length_entries_of : (l : List (List ℕ)) → length (entries_of l) ≡ length l
length_entries_of l = length-map l entry_of

pub nth_entry_of : (l : List (List ℕ)) (i : ℕ) → nth_entry (entries_of l) i ≡ entry_of (get_or l i [])
nth_entry_of l i = get_or-map entry_of l i []

-- the tick of the bytes with the number i
pub tick_there : (l : List (List ℕ)) (i : ℕ) {e : Entry} → e ≡ entry_of (get_or l i []) → e.tick ≡ (nth_entry (entries_of l) i).tick
tick_there l i f = ap (λ (e : Entry). e.tick) (f ∙ sym (nth_entry_of l i))

-- ---- the cells of a log

pub length_cells_of : (l : List Entry) → length (cells_of l) ≡ length l
length_cells_of l = length-map l (λ (e : Entry). e.cell)

pub nth_cell : (l : List Entry) (i : ℕ) → nth (cells_of l) i ≡ (nth_entry l i).cell
nth_cell l i = get_or-map (λ (e : Entry). e.cell) l i (entry (cell 0 0) 0)

-- that of the bytes with the number i
pub cell_there : (l : List (List ℕ)) (i : ℕ) {e : Entry} → e ≡ entry_of (get_or l i []) → e.cell ≡ nth (cells_of (entries_of l)) i
cell_there l i f = ap (λ (e : Entry). e.cell) (f ∙ sym (nth_entry_of l i)) ∙ sym (nth_cell (entries_of l) i)

-- each is on the panel where all are
pub on_entry : (p : Panel) (l : List Entry) (i : ℕ) → all_on p (cells_of l) ≡ true → i < length l → OnPanel p (nth (cells_of l) i)
on_entry p l i e h = on_index p (cells_of l) i e (omega (arith, length_cells_of l))

-- the bytes with the number i of such a log, whose entry is e
module _ (p : Panel) (l : List (List ℕ)) (i : ℕ) (on : all_on p (cells_of (entries_of l)) ≡ true) (h : i < length l) where
  pub inside : OnPanel p (nth (cells_of (entries_of l)) i)
  inside = on_entry p (entries_of l) i on (omega (arith, length_entries_of l))

  module _ {e : Entry} (f : e ≡ entry_of (get_or l i [])) where
    pub is_inside : on_panel p e.cell ≡ true
    is_inside = is_on (subst⁻¹ (OnPanel p) (cell_there l i f) inside)

    module _ {at : ℕ} (g : at ≡ place p e.cell) where
      pub place_there : at ≡ place p (nth (cells_of (entries_of l)) i)
      place_there = g ∙ ap (place p) (cell_there l i f)

      pub place_within : {k : ℕ} → area p ≤ k → at < k
      place_within = place_in inside place_there

pub all_on_entries : (p : Panel) (l : List (List ℕ)) → list_all (λ b. on_panel p (entry_of b).cell) l ≡ all_on p (cells_of (entries_of l))
all_on_entries p [] = refl
all_on_entries p (b ∷ l) = ap (λ (r : Bool). on_panel p (entry_of b).cell && r) (all_on_entries p l)
