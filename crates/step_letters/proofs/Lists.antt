-- Lists walked from the front: what stands at a place and what is left behind it, and buffers that are filled so.
use Prim.Native.Nat.{ℕ, suc, ◌+◌, ◌≤◌, ◌<◌}
use mathlib.Core.Path.{◌≡◌, refl, sym, ap, ap₂, ◌∙◌}
use mathlib.Core.List.{List, [], ◌∷◌, ◌++◌}
use native.Mathlib.Numerals.{add-one}
use native.Mathlib.Omega.{arith}
use lib.ListN.{length, take, drop, set, take-append-drop}
use lib.Seq.{take-suc-set, drop-set-lt, append_snoc}
use Rattle.grid.specs.declared.Cell.{Cell}
use Rattle.grid.specs.Bytes.{cells_in}
use Rattle.list.specs.List.{cell_at}
use Rattle.list.proofs.Cells.{pairs_more, pairs_end}
use Rattle.step_letters.specs.Letters.{letter, letters_from, letters_of, steps_of}

-- ---- lists

pub bytes_end : (l : List ℕ) (i : ℕ) → length l ≤ i → drop i l ≡ []
bytes_end l i h = lib.ListN.drop_of_length-le l h

pub letters_more : (l : List ℕ) (i : ℕ) → i + 3 < length l
    → letters_of (cells_in (drop i l)) ≡ letter (cell_at l i) (cell_at l (i + 2)) ∷ letters_of (cells_in (drop (i + 2) l))
letters_more = pairs_more letters_of (λ a b k. letter a b ∷ k) (λ a b r. refl)

pub letters_end : (l : List ℕ) (i : ℕ) → length l ≤ i + 3 → letters_of (cells_in (drop i l)) ≡ []
letters_end = pairs_end letters_of [] refl (λ a. refl)

-- one letter for each step
pub length_letters_from : (a : Cell) (l : List Cell) → length (letters_from a l) ≡ length l
length_letters_from a [] = refl
length_letters_from a (b ∷ l) = ap suc (length_letters_from b l)

pub length_letters : (l : List Cell) → length (letters_of l) ≡ steps_of l
length_letters [] = refl
length_letters (a ∷ l) = length_letters_from a l

pub steps_and_one : (l : List Cell) → 1 ≤ length l → steps_of l + 1 ≡ length l
steps_and_one [] h = omega arith
steps_and_one (a ∷ l) h = omega arith

-- ---- buffers: what is still to be written from k on, up to n

pub put_byte : (l : List ℕ) (k n x : ℕ) (r : List ℕ) → k < length l → k < n
    → take k l ++ (x ∷ (r ++ drop n l)) ≡ take (k + 1) (set l k x) ++ (r ++ drop n (set l k x))
put_byte l k n x r h m =
    let front = ap (λ (j : ℕ). take j (set l k x)) (add-one k) ∙ take-suc-set l k x h in
    sym (ap₂ (λ (a b : List ℕ). a ++ (r ++ b)) front (drop-set-lt n l k x m) ∙ append_snoc (take k l) x (r ++ drop n l))

pub put_done : (l : List ℕ) (k n : ℕ) → k ≡ n → take k l ++ drop n l ≡ l
put_done l k n e = ap (λ (j : ℕ). take j l ++ drop n l) e ∙ take-append-drop n l
