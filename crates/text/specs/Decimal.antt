-- Numbers in base ten, as bytes of ASCII.
use Rattle.std.specs.Prelude.{ℕ, zero, suc, ◌+◌, ◌/◌, ◌%◌, Bool, cond, ◌&&◌, List, [], ◌∷◌, ◌++◌, leb, ltb}

-- the byte of the digit 0; the others follow it
abbrev pub zero_byte : ℕ
zero_byte = 48

abbrev pub digit : ℕ → ℕ
digit d = zero_byte + d

abbrev pub is_digit : ℕ → Bool
is_digit b = leb (digit 0) b && leb b (digit 9)

-- n with at most k digits and no leading zero: the digits of n / 10, if that is not 0, and the last digit
abbrev pub digits_within : ℕ → ℕ → List ℕ
digits_within zero n = []
digits_within (suc k) n = cond (ltb n 10) (digit n ∷ []) (digits_within k (n / 10) ++ (digit (n % 10) ∷ []))

-- n in base ten without a leading zero, 0 itself excepted; it has at most n + 1 digits
unfoldable pub decimal : ℕ → List ℕ
decimal n = digits_within (suc n) n
