-- Numbers in base ten: one digit, and all but the last and the last; how many digits there are.
use Prim.Native.Nat.{ℕ, zero, suc, ◌+◌, ◌*◌, ◌/◌, ◌%◌, ◌^◌, ◌≤◌, ◌<◌}
use mathlib.Core.Path.{◌≡◌, refl, sym, ap, ◌∙◌}
use mathlib.Core.Bool.{Bool, true, false}
use mathlib.Core.List.{List, [], ◌∷◌, ◌++◌}
use native.Mathlib.Omega.{arith}
use native.Mathlib.Nat.{pow-suc}
use lib.ListN.{length, length-append}
use lib.Dec.{ltb}
use borrow.Author.Tests.{ltb-true, ltb-false, lt-ltb, le-ltb}
use Rattle.grid.proofs.Tests.{cond_yes, cond_no}
use Rattle.text.specs.Decimal.{digit, digits_within, decimal}

-- two numbers of digits that are both enough give the same
enough : (k j n : ℕ) → n < k → n < j → digits_within k n ≡ digits_within j n
enough zero j n h g = absurd (omega arith)
enough (suc k) zero n h g = absurd (omega arith)
enough (suc k) (suc j) n h g = go (ltb n 10) refl (λ b. enough k j (n / 10) (omega arith) (omega arith))
  where
    go : (t : Bool) → ltb n 10 ≡ t → (10 ≤ n → digits_within k (n / 10) ≡ digits_within j (n / 10))
        → digits_within (suc k) n ≡ digits_within (suc j) n
    go true q f = sym (cond_yes _ _ q refl) ∙ cond_yes _ _ q refl
    go false q f =
        sym (cond_no _ _ q refl)
        ∙ ap (λ (l : List ℕ). l ++ (digit (n % 10) ∷ [])) (f (ltb-false n 10 q))
        ∙ cond_no _ _ q refl

pub decimal_small : (n : ℕ) → n < 10 → decimal n ≡ digit n ∷ []
unfolding decimal
decimal_small n h = sym (cond_yes _ _ (lt-ltb n 10 h) refl)

pub decimal_more : (n : ℕ) → 10 ≤ n → decimal n ≡ decimal (n / 10) ++ (digit (n % 10) ∷ [])
unfolding decimal
decimal_more n h =
    let digits = enough n (suc (n / 10)) (n / 10) (omega arith) (omega arith) in
    sym (cond_no _ _ (le-ltb n 10 h) refl) ∙ ap (λ (l : List ℕ). l ++ (digit (n % 10) ∷ [])) digits

-- a digit behind a number that is not 0
pub decimal_digit : (v d : ℕ) → 1 ≤ v → d < 10 → decimal (10 * v + d) ≡ decimal v ++ (digit d ∷ [])
decimal_digit v d h g =
    let q : (10 * v + d) / 10 ≡ v = omega arith in
    let r : (10 * v + d) % 10 ≡ d = omega arith in
    decimal_more (10 * v + d) (omega arith) ∙ λ i. decimal (q i) ++ (digit (r i) ∷ [])

pub length_decimal : (k n : ℕ) → n < 10 ^ suc k → length (decimal n) ≤ suc k
length_decimal zero n h = omega (arith, ap length (decimal_small n h))
length_decimal (suc k) n h = go (ltb n 10) refl (length_decimal k (n / 10) (omega (arith, pow-suc 10 (suc k))))
  where
    go : (t : Bool) → ltb n 10 ≡ t → length (decimal (n / 10)) ≤ suc k → length (decimal n) ≤ suc (suc k)
    go true q h = omega (arith, ap length (decimal_small n (ltb-true n 10 q)))
    go false q h =
        let last = digit (n % 10) ∷ [] in
        omega (arith, ap length (decimal_more n (ltb-false n 10 q)), length-append (decimal (n / 10)) last)

-- a number of 32 bits
pub most_digits : (n : ℕ) → n < 2 ^ 32 → length (decimal n) ≤ 10
most_digits n h = length_decimal 9 n (omega arith)

-- the number of digits: one, or one more than those before the last
pub one_digit : (n : ℕ) → n < 10 → length (decimal n) ≡ 1
one_digit n h = ap length (decimal_small n h)

pub digit_taken : (n : ℕ) → 10 ≤ n → length (decimal n) ≡ length (decimal (n / 10)) + 1
digit_taken n h = ap length (decimal_more n h) ∙ length-append (decimal (n / 10)) (digit (n % 10) ∷ [])

pub some_digit : (n : ℕ) → 1 ≤ length (decimal n)
some_digit n = go (ltb n 10) refl
  where
    go : (t : Bool) → ltb n 10 ≡ t → 1 ≤ length (decimal n)
    go true q = omega (arith, one_digit n (ltb-true n 10 q))
    go false q = omega (arith, digit_taken n (ltb-false n 10 q))
