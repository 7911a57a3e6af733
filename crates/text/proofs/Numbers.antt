-- Reading and writing agree. A number is read digit by digit, which is how its decimal form is made, and it ends where no digit is behind it:
-- what is written is read (`reads_number`, `reads_field`), what is read is written so (`number_read`, `field_read`), and so a number's digits
-- tell where they end (`same_number`).
use Prim.Native.Nat.{ℕ, zero, suc, ◌+◌, ◌*◌, ◌-◌, ◌/◌, ◌%◌, ◌≤◌, ◌<◌}
use mathlib.Core.Path.{◌≡◌, refl, sym, ap, ◌∙◌}
use mathlib.Core.Bool.{Bool, true, false, ◌&&◌}
use mathlib.Core.List.{List, [], ◌∷◌, ◌++◌, append_assoc, append-nil}
use native.Mathlib.Omega.{arith}
use lib.Dec.{leb, ltb, eqb}
use borrow.Author.Tests.{ltb-true, ltb-false, leb-true, le-leb, eqb-true, eqb-false, eq-eqb, ne_eqb}
use Rattle.grid.proofs.Tests.{cond_yes, cond_no}
use Rattle.grid.proofs.Facts.{clash, and_left, and_right, and_both}
use Rattle.text.specs.Decimal.{zero_byte, digit, is_digit, decimal}
use Rattle.text.specs.Field.{largest_number, field_of, Parsed, more_digits, number_at, ended, field, and_then}
use Rattle.text.specs.Field.Parsed.{nothing, value}
use Rattle.text.proofs.Decimals.{decimal_small, decimal_more, decimal_digit}
use Rattle.text.proofs.Reading.{digit_low, digit_high, is_digit_lem}

-- ---- what is written is read

more_digit : (v d : ℕ) (l : List ℕ) → d < 10 → more_digits v (digit d ∷ l) ≡ more_digits (10 * v + d) l
more_digit v d l h =
    let e : digit d - zero_byte ≡ d = omega arith in
    sym (cond_yes _ (value v (digit d ∷ l)) (is_digit_lem (digit d) (omega arith) (omega arith)) refl)
    ∙ ap (λ (k : ℕ). more_digits (10 * v + k) l) e

first_digit : (d : ℕ) (l : List ℕ) → 1 ≤ d → d < 10 → number_at (digit d ∷ l) ≡ more_digits d l
first_digit d l h g =
    let e : digit d - zero_byte ≡ d = omega arith in
    let not-zero = ne_eqb (digit d) zero_byte (λ q. omega arith) in
    sym (cond_no _ _ not-zero (cond_yes _ nothing (is_digit_lem (digit d) (omega arith) (omega arith)) refl))
    ∙ ap (λ (k : ℕ). more_digits k l) e

reads_digits : (k n : ℕ) (l : List ℕ) → n < k → 1 ≤ n → number_at (decimal n ++ l) ≡ more_digits n l
reads_digits zero n l h g = absurd (omega arith)
reads_digits (suc k) n l h g = go (ltb n 10) refl (λ b. reads_digits k (n / 10) (digit (n % 10) ∷ l) (omega arith) (omega arith))
  where
    go : (t : Bool) → ltb n 10 ≡ t
        → (10 ≤ n → number_at (decimal (n / 10) ++ (digit (n % 10) ∷ l)) ≡ more_digits (n / 10) (digit (n % 10) ∷ l))
        → number_at (decimal n ++ l) ≡ more_digits n l
    go true q f =
        ap (λ (b : List ℕ). number_at (b ++ l)) (decimal_small n (ltb-true n 10 q)) ∙ first_digit n l g (ltb-true n 10 q)
    go false q f =
        let e : 10 * (n / 10) + n % 10 ≡ n = omega arith in
        ap (λ (b : List ℕ). number_at (b ++ l)) (decimal_more n (ltb-false n 10 q))
        ∙ ap number_at (append_assoc (decimal (n / 10)) (digit (n % 10) ∷ []) l)
        ∙ f (ltb-false n 10 q)
        ∙ more_digit (n / 10) (n % 10) l (omega arith)
        ∙ ap (λ (k : ℕ). more_digits k l) e

-- the digits of a number, whatever is behind them
reads_decimal : (n : ℕ) (l : List ℕ) → more_digits n l ≡ value n l → number_at (decimal n ++ l) ≡ value n l
reads_decimal zero l q = ap (λ (b : List ℕ). number_at (b ++ l)) (decimal_small 0 (omega arith))
reads_decimal (suc n) l q = reads_digits (suc (suc n)) (suc n) l (omega arith) (omega arith) ∙ q

-- a number with a byte behind it that is no digit, and one with nothing behind it
pub reads_number : (n e : ℕ) (l : List ℕ) → is_digit e ≡ false → number_at (decimal n ++ e ∷ l) ≡ value n (e ∷ l)
reads_number n e l q = reads_decimal n (e ∷ l) (sym (cond_no _ _ q refl))

pub reads_last : (n : ℕ) → number_at (decimal n) ≡ value n []
reads_last n = ap number_at (sym (append-nil (decimal n))) ∙ reads_decimal n [] refl

pub reads_field : (n e : ℕ) (l : List ℕ) → is_digit e ≡ false → n ≤ largest_number → value n l ≡ field e (field_of n e l)
reads_field n e l q h =
    cond_yes _ _ (and_both (le-leb n largest_number h) (eq-eqb e e refl)) refl ∙ ap (ended e) (sym (reads_number n e l q))

-- two numbers with bytes behind them that are no digits: the same bytes are the same number and the same rest
pub same_number : (m n d e : ℕ) (l k : List ℕ) → is_digit d ≡ false → is_digit e ≡ false → decimal m ++ d ∷ l ≡ decimal n ++ e ∷ k
    → (m ≡ n) × (d ∷ l ≡ e ∷ k)
same_number m n d e l k p q same =
    let f : value m (d ∷ l) ≡ value n (e ∷ k) = sym (reads_number m d l p) ∙ ap number_at same ∙ reads_number n e k q in
    ((cc), (cc))

-- ---- what is read is written so

-- a number that digits were read behind is written as it was before, and then they
digits_read : (v : ℕ) (l : List ℕ) (n : ℕ) (r : List ℕ) → 1 ≤ v → more_digits v l ≡ value n r → decimal v ++ l ≡ decimal n ++ r
digits_read v [] n r h q =
    let e : v ≡ n = cc in
    let f : [] ≡ r = cc in
    λ i. decimal (e i) ++ f i
digits_read v (b ∷ l) n r h q = go (is_digit b) refl (digits_read (10 * v + (b - zero_byte)) l n r (omega arith))
  where
    go : (t : Bool) → is_digit b ≡ t
        → (more_digits (10 * v + (b - zero_byte)) l ≡ value n r → decimal (10 * v + (b - zero_byte)) ++ l ≡ decimal n ++ r)
        → decimal v ++ b ∷ l ≡ decimal n ++ r
    go true d f =
        let low = digit_low b d in
        let high = digit_high b d in
        let e : digit (b - zero_byte) ≡ b = omega arith in
        ap (λ (x : ℕ). decimal v ++ x ∷ l) (sym e)
        ∙ sym (append_assoc (decimal v) (digit (b - zero_byte) ∷ []) l)
        ∙ ap (λ (k : List ℕ). k ++ l) (sym (decimal_digit v (b - zero_byte) h (omega arith)))
        ∙ f (cond_yes _ _ d refl ∙ q)
    go false d f =
        let c : value v (b ∷ l) ≡ value n r = cond_no _ _ d refl ∙ q in
        let e : v ≡ n = cc in
        let g : b ∷ l ≡ r = cc in
        λ i. decimal (e i) ++ g i

pub number_read : (l : List ℕ) (n : ℕ) (r : List ℕ) → number_at l ≡ value n r → l ≡ decimal n ++ r
number_read [] n r q = clash (cc)
number_read (b ∷ l) n r q = go (eqb b zero_byte) refl (is_digit b) refl
  where
    go : (z : Bool) → eqb b zero_byte ≡ z → (d : Bool) → is_digit b ≡ d → b ∷ l ≡ decimal n ++ r
    go true z d e =
        let c : value 0 l ≡ value n r = cond_yes _ _ z refl ∙ q in
        let f : 0 ≡ n = cc in
        let g : l ≡ r = cc in
        ap (λ (x : ℕ). x ∷ l) (eqb-true b zero_byte z)
        ∙ ap (λ (k : List ℕ). k ++ l) (sym (decimal_small 0 (omega arith)))
        ∙ (λ i. decimal (f i) ++ g i)
    go false z true e =
        let low = digit_low b e in
        let high = digit_high b e in
        let other = eqb-false b zero_byte z in
        let c : digit (b - zero_byte) ≡ b = omega arith in
        ap (λ (x : ℕ). x ∷ l) (sym c)
        ∙ ap (λ (k : List ℕ). k ++ l) (sym (decimal_small (b - zero_byte) (omega arith)))
        ∙ digits_read (b - zero_byte) l n r (omega arith) (cond_no _ _ z (cond_yes _ _ e refl) ∙ q)
    go false z false e =
        let c : nothing ≡ value n r = cond_no _ _ z (cond_no _ _ e refl) ∙ q in
        clash (cc)

-- a field that was read is a number that is not too large, as it is written, and the byte that ends it
pub field_read : (e : ℕ) (l : List ℕ) (n : ℕ) (r : List ℕ) → field e l ≡ value n r → (l ≡ field_of n e r) × (n ≤ largest_number)
field_read e l n r q = go (number_at l) refl
  where
    -- what is read of the number is what was read
    read : {p : Parsed} → number_at l ≡ p → ended e p ≡ value n r
    read p = ap (ended e) (sym p) ∙ q

    here : (v b : ℕ) (k : List ℕ) → number_at l ≡ value v (b ∷ k) → (t : Bool) → (leb v largest_number && eqb b e) ≡ t
        → (l ≡ field_of n e r) × (n ≤ largest_number)
    here v b k p true t =
        let c : value v k ≡ value n r = cond_yes _ _ t refl ∙ read p in
        let f : v ≡ n = cc in
        let g : k ≡ r = cc in
        let small = leb-true v largest_number (and_left (leb v largest_number) (eqb b e) t) in
        let end = eqb-true b e (and_right (leb v largest_number) (eqb b e) t) in
        (number_read l v (b ∷ k) p ∙ (λ i. decimal (f i) ++ end i ∷ g i), omega arith)
    here v b k p false t =
        let c : nothing ≡ value n r = cond_no _ _ t refl ∙ read p in
        clash (cc)

    go : (p : Parsed) → number_at l ≡ p → (l ≡ field_of n e r) × (n ≤ largest_number)
    go nothing p = let c = read p in clash (cc)
    go (value v []) p = let c = read p in clash (cc)
    go (value v (b ∷ k)) p = here v b k p (leb v largest_number && eqb b e) refl

-- ---- what is read goes on

-- a number as it is written, and what is read behind it
pub reads_next {ℓ} : {A : Type ℓ} (z : A) (n e : ℕ) (l : List ℕ) (k : ℕ → List ℕ → A) {y : A} → is_digit e ≡ false → n ≤ largest_number
    → y ≡ k n l → y ≡ and_then z (field e (field_of n e l)) k
reads_next z n e l k q h f = f ∙ ap (λ (r : Parsed). and_then z r k) (reads_field n e l q h)

-- bytes begin with a number that is not too large and the byte e, and reading goes on behind it to y
pub record Begins {ℓ} {A : Type ℓ} (e : ℕ) (l : List ℕ) (k : ℕ → List ℕ → A) (y : A) : Type ℓ where
  pub number : ℕ
  pub rest : List ℕ
  pub bytes : l ≡ field_of number e rest
  pub small : number ≤ largest_number
  pub on : k number rest ≡ y

-- reading that goes on to something else than z has read a number
pub goes_on {ℓ} : {A : Type ℓ} (z : A) (e : ℕ) (l : List ℕ) (k : ℕ → List ℕ → A) {y : A} → (z ≡ y → ⊥) → and_then z (field e l) k ≡ y
    → Begins e l k y
goes_on {A = A} z e l k {y} other q = go (field e l) refl
  where
    read : {f : Parsed} → field e l ≡ f → and_then z f k ≡ y
    read f = ap (λ (x : Parsed). and_then z x k) (sym f) ∙ q

    go : (f : Parsed) → field e l ≡ f → Begins e l k y
    go nothing f = absurd (other (read f))
    go (value n r) f =
        let w = field_read e l n r f in
        record { number = n; rest = r; bytes = w.0; small = w.1; on = read f }
