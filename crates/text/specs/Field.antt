-- A number in base ten and the byte that ends it: the form, and how it is read.
use Rattle.std.specs.Prelude.{ℕ, ◌+◌, ◌*◌, ◌-◌, ◌^◌, cond, ◌&&◌, List, [], ◌∷◌, ◌++◌, drop, leb, eqb, Option, None, Some}
use Rattle.text.specs.declared.Field.{Field}
use Rattle.text.specs.Decimal.{zero_byte, is_digit, decimal}

abbrev pub blank : ℕ
blank = 32

abbrev pub line_feed : ℕ
line_feed = 10

-- the largest number that is read, 4,294,967,295: 32 bits
abbrev pub largest_number : ℕ
largest_number = 2 ^ 32 - 1

-- ---- the form

-- a number in base ten, the byte e behind it, and the rest
abbrev pub field_of : ℕ → ℕ → List ℕ → List ℕ
field_of n e rest = decimal n ++ e ∷ rest

-- ---- how it is read

-- what stands at the front of bytes: nothing of the form, or a number's value and the bytes behind it
pub data Parsed : Type 0 where
  nothing : Parsed
  value : ℕ → List ℕ → Parsed

-- v with the digits at the front behind it
abbrev pub more_digits : ℕ → List ℕ → Parsed
more_digits v [] = value v []
more_digits v (b ∷ l) = cond (is_digit b) (more_digits (10 * v + (b - zero_byte)) l) (value v (b ∷ l))

-- a number at the front: 0, or digits the first of which is not 0
abbrev pub number_at : List ℕ → Parsed
number_at [] = nothing
number_at (b ∷ l) = cond (eqb b zero_byte) (value 0 l) (cond (is_digit b) (more_digits (b - zero_byte) l) nothing)

-- a number that is not too large, and the byte e behind it
abbrev pub ended : ℕ → Parsed → Parsed
ended e nothing = nothing
ended e (value v []) = nothing
ended e (value v (b ∷ l)) = cond (leb v largest_number && eqb b e) (value v l) nothing

abbrev pub field : ℕ → List ℕ → Parsed
field e l = ended e (number_at l)

-- what a number read up to a position of the input stands for
abbrev pub parsed : List ℕ → Option Field → Parsed
parsed input None = nothing
parsed input (Some f) = value f.value (drop f.next input)

-- what a number at the front goes on to, or z where there is none
abbrev pub and_then {ℓ} : {A : Type ℓ} → A → Parsed → (ℕ → List ℕ → A) → A
and_then z nothing k = z
and_then z (value v l) k = k v l
