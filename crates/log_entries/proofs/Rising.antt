-- Ticks rise exactly if none of each two successive ones is below the one before it.
use Prim.Native.Nat.{ℕ, zero, suc, ◌<◌}
use native.Mathlib.Numerals.{add-one}
use native.Mathlib.Omega.{arith}
use mathlib.Core.Path.{◌≡◌, refl, sym, ap, subst, ◌∙◌}
use mathlib.Core.Bool.{Bool, true, false, ◌&&◌, and-false}
use mathlib.Core.List.{List, [], ◌∷◌}
use lib.Dec.{leb}
use lib.ListN.{length, get_or}
use borrow.Author.Tests.{le-leb}
use Rattle.std.specs.List.{IsAllAdjacentAnswer}
use Rattle.grid.proofs.Facts.{and_both}
use Rattle.log_entries.specs.Log.{entry_of, entries_of, rises_from, rises}

abbrev tick : List ℕ → ℕ
tick b = (entry_of b).tick

-- the ticks of the bytes of two entries are in order
abbrev in_order : List ℕ → List ℕ → Bool
in_order a b = leb (tick a) (tick b)

all_in_order : (b : List ℕ) (l : List (List ℕ))
    → ((k : ℕ) (d : List ℕ) → suc k < length (b ∷ l) → true ≡ in_order (get_or (b ∷ l) k d) (get_or (b ∷ l) (suc k) d))
    → true ≡ rises_from (tick b) (entries_of l)
all_in_order b [] h = refl
all_in_order b (c ∷ l) h =
    sym (and_both (sym (h 0 [] (omega arith))) (sym (all_in_order c l (λ k d i. h (suc k) d (omega arith)))))

out_of_order : (b : List ℕ) (l : List (List ℕ)) (k : ℕ) → suc k < length (b ∷ l)
    → ((d : List ℕ) → false ≡ in_order (get_or (b ∷ l) k d) (get_or (b ∷ l) (suc k) d)) → false ≡ rises_from (tick b) (entries_of l)
out_of_order b [] k h f = absurd (omega arith)
out_of_order b (c ∷ l) zero h f = ap (λ (r : Bool). r && rises_from (tick c) (entries_of l)) (f [])
out_of_order b (c ∷ l) (suc k) h f =
    sym (ap (λ (r : Bool). in_order b c && r) (sym (out_of_order c l k (omega arith) f)) ∙ and-false (in_order b c))

-- no tick is below 0
from_first : (b : List ℕ) (l : List (List ℕ)) → rises_from (tick b) (entries_of l) ≡ rises (entries_of (b ∷ l))
from_first b l = ap (λ (r : Bool). r && rises_from (tick b) (entries_of l)) (sym (le-leb 0 (tick b) (omega arith)))

pub rises_answer : (l : List (List ℕ)) (r : Bool) → IsAllAdjacentAnswer (λ x y s. s ≡ in_order x y) l r → r ≡ rises (entries_of l)
rises_answer [] true h = refl
rises_answer [] false h = absurd (omega (arith, h.1))
rises_answer (b ∷ l) true h =
    all_in_order b l (λ k d i. subst (λ (j : ℕ). true ≡ in_order (get_or (b ∷ l) k d) (get_or (b ∷ l) j d)) (add-one k) (h k d (omega arith)))
    ∙ from_first b l
rises_answer (b ∷ l) false h =
    let k = h.0 in
    out_of_order b l k (omega (arith, h.1)) (λ d. subst (λ (j : ℕ). false ≡ in_order (get_or (b ∷ l) k d) (get_or (b ∷ l) j d)) (add-one k) (h.2 d))
    ∙ from_first b l
