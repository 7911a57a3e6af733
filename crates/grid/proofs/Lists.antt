-- A list at the element with the number i, from 0: the first i elements with it, and those from it on. z stands for an element that is not there.
use Prim.Native.Nat.{ℕ, ◌+◌, ◌<◌}
use native.Mathlib.Numerals.{add-one}
use mathlib.Core.Path.{◌≡◌, sym, ap, ◌∙◌}
use mathlib.Core.List.{List, [], ◌∷◌, ◌++◌}
use lib.ListN.{length, take, drop, get_or}
use lib.Seq.{take-suc, drop-cons}

module _ {ℓ} {A : Type ℓ} (z : A) (l : List A) (i : ℕ) (h : i < length l) where
  pub take_next : take (i + 1) l ≡ take i l ++ get_or l i z ∷ []
  take_next = ap (λ (k : ℕ). take k l) (add-one i) ∙ take-suc l i z h

  pub drop_next : drop i l ≡ get_or l i z ∷ drop (i + 1) l
  drop_next = drop-cons l i z h ∙ ap (λ (k : ℕ). get_or l i z ∷ drop k l) (sym (add-one i))
