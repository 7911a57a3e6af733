-- Reading at a position of the input: how the byte there decides what the definitions read from it on.
use Prim.Native.Nat.{ℕ, ◌+◌, ◌*◌, ◌-◌, ◌≤◌, ◌<◌}
use mathlib.Core.Path.{◌≡◌, refl, sym, ap, ◌∙◌}
use mathlib.Core.Bool.{Bool, true, false}
use mathlib.Core.List.{List, [], ◌∷◌}
use native.Mathlib.Omega.{arith}
use lib.ListN.{length, drop, get_or}
use lib.Dec.{leb, eqb}
use borrow.Author.Tests.{leb-true, le-leb, lt-leb}
use Rattle.grid.proofs.Tests.{and_no, cond_yes, cond_no}
use Rattle.grid.proofs.Facts.{and_left, and_right, and_both}
use Rattle.grid.proofs.Lists.{drop_next}
use Rattle.text.specs.Decimal.{zero_byte, is_digit}
use Rattle.std.specs.Prelude.{Option, None, Some}
use Rattle.text.specs.declared.Field.{Field}
use Rattle.text.specs.Field.{largest_number, Parsed, more_digits, ended, field, parsed, and_then}
use Rattle.text.specs.Field.Parsed.{nothing, value}

-- ---- digits

pub digit_low : (b : ℕ) → is_digit b ≡ true → zero_byte ≤ b
digit_low b e = leb-true zero_byte b (and_left (leb zero_byte b) (leb b 57) e)

pub digit_high : (b : ℕ) → is_digit b ≡ true → b ≤ 57
digit_high b e = leb-true b 57 (and_right (leb zero_byte b) (leb b 57) e)

pub is_digit_lem : (b : ℕ) → zero_byte ≤ b → b ≤ 57 → is_digit b ≡ true
is_digit_lem b l h = and_both (le-leb zero_byte b l) (le-leb b 57 h)

-- ---- the digits of a number

module _ (v : ℕ) (l : List ℕ) (i : ℕ) where
  pub digits_more : i < length l → is_digit (get_or l i 0) ≡ true
      → more_digits (10 * v + (get_or l i 0 - zero_byte)) (drop (i + 1) l) ≡ more_digits v (drop i l)
  digits_more h q = cond_yes _ (value v (get_or l i 0 ∷ drop (i + 1) l)) q refl ∙ ap (more_digits v) (sym (drop_next 0 l i h))

-- more digits do not make a number less
pub too_large : (e v : ℕ) (l : List ℕ) → largest_number < v → nothing ≡ ended e (more_digits v l)
too_large e v [] h = refl
too_large e v (b ∷ l) h = go (is_digit b) refl (too_large e (10 * v + (b - zero_byte)) l (omega arith))
  where
    large : nothing ≡ ended e (value v (b ∷ l))
    large = cond_no _ _ (sym (and_no (eqb b e) (lt-leb v largest_number h))) refl

    go : (t : Bool) → is_digit b ≡ t → nothing ≡ ended e (more_digits (10 * v + (b - zero_byte)) l) → nothing ≡ ended e (more_digits v (b ∷ l))
    go true q next = next ∙ ap (ended e) (cond_yes _ _ q refl)
    go false q next = large ∙ ap (ended e) (cond_no _ _ q refl)

-- a digit that makes the number too large
pub digit_too_large : (e v : ℕ) (l : List ℕ) (i : ℕ) → i < length l → is_digit (get_or l i 0) ≡ true
    → largest_number < 10 * v + (get_or l i 0 - zero_byte) → nothing ≡ ended e (more_digits v (drop i l))
digit_too_large e v l i h q g = too_large e _ (drop (i + 1) l) g ∙ ap (ended e) (digits_more v l i h q)

-- ---- what a number read at a position goes on to

module _ {ℓ} {A : Type ℓ} (z : A) (input : List ℕ) (e i : ℕ) (k : ℕ → List ℕ → A) {r : Option Field} (f : parsed input r ≡ field e (drop i input)) where
  pub reads_none : r ≡ None → z ≡ and_then z (field e (drop i input)) k
  reads_none q = ap (λ (p : Parsed). and_then z p k) (ap (parsed input) (sym q) ∙ f)

  pub reads_on : {g : Field} → r ≡ Some g → k g.value (drop g.next input) ≡ and_then z (field e (drop i input)) k
  reads_on q = ap (λ (p : Parsed). and_then z p k) (ap (parsed input) (sym q) ∙ f)
