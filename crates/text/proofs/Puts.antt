-- Texts put into a buffer: one byte, one text behind another, and the buffer's length.
use Prim.Native.Nat.{ℕ, suc, ◌+◌, ◌-◌, ◌/◌, ◌%◌, ◌^◌, ◌≤◌, ◌<◌}
use mathlib.Core.Path.{◌≡◌, sym, ap, subst, ◌∙◌}
use mathlib.Core.List.{List, [], ◌∷◌, ◌++◌, append_assoc}
use native.Mathlib.Omega.{arith}
use native.Mathlib.Numerals.{add-one}
use native.Mathlib.Nat.{add-zero}
use lib.ListN.{length, take, drop, set, length-append, length-drop, length-set, take-append-drop}
use lib.Seq.{drop-cons, get_or-set_same, drop-set-lt, set_split, take_at, drop-append-add, drop-drop, length-take-le}
use borrow.Rule.Slice.PartMut.{put_mid}
use Rattle.text.specs.Decimal.{digit, decimal}
use Rattle.text.specs.Field.{blank, field_of}
use Rattle.text.specs.Put.{put, Put}
use Rattle.text.proofs.Decimals.{decimal_small, decimal_more, length_decimal, some_digit}

module _ (out : List ℕ) (at : ℕ) where
  pub put_one : (b : ℕ) → at < length out → set out at b ≡ put out at (b ∷ [])
  unfolding put
  put_one b h = set_split out at b h ∙ ap (λ (n : ℕ). take at out ++ (b ∷ drop n out)) (sym (add-one at))

  pub length_put : (t : List ℕ) → at + length t ≤ length out → length (put out at t) ≡ length out
  unfolding put
  length_put t h =
      simp (length-append, length-drop) (omega (arith, length-take-le at out (omega arith)))

  -- the text put first is kept, and what is behind both is the old buffer's
  pub put_both : (t u : List ℕ) → at + length (t ++ u) ≤ length out → put (put out at t) (at + length t) u ≡ put out at (t ++ u)
  unfolding put
  put_both t u h =
      let both = length-append t u in
      let begin = take at out in
      let front = begin ++ t in
      let rest = drop (at + length t) out in
      let last = drop (at + length (t ++ u)) out in
      let sum : at + length t + length u ≡ at + length (t ++ u) = omega arith in
      let size : length front ≡ at + length t = omega (arith, length-append begin t, length-take-le at out (omega arith)) in
      let kept : take (at + length t) (front ++ rest) ≡ front = take_at front rest (at + length t) size in
      let behind : drop (at + length t + length u) (front ++ rest) ≡ last =
      ap (λ (k : ℕ). drop (k + length u) (front ++ rest)) (sym size)
      ∙ drop-append-add front rest (length u)
      ∙ drop-drop (length u) (at + length t) out
      ∙ ap (λ (k : ℕ). drop k out) sum in
      let whole : begin ++ (t ++ rest) ≡ front ++ rest = sym (append_assoc begin t rest) in
      (λ i. take (at + length t) (whole i) ++ (u ++ drop (at + length t + length u) (whole i)))
      ∙ (λ i. kept i ++ (u ++ behind i))
      ∙ append_assoc begin t (u ++ last)
      ∙ ap (λ (l : List ℕ). begin ++ l) (sym (append_assoc t u last))

  pub put_none : out ≡ put out at []
  unfolding put
  put_none = sym (take-append-drop at out) ∙ ap (λ (k : ℕ). take at out ++ drop k out) (sym (add-zero at))

  -- a text copied over the bytes of a part
  pub put_copied : (t u : List ℕ) → u ≡ t → put_mid at (at + length t - at) out u ≡ put out at t
  unfolding put
  put_copied t u e =
      let k = at + length t - at in
      let sum : at + k ≡ at + length t = omega arith in
      let behind : drop k (drop at out) ≡ drop (at + length t) out = drop-drop k at out ∙ ap (λ (j : ℕ). drop j out) sum in
      λ i. take at out ++ (e i ++ behind i)

-- the same text, told otherwise
pub puts_is : {out : List ℕ} {at : ℕ} {t u : List ℕ} {after : List ℕ} {next : ℕ} → t ≡ u → Put out at t after next → Put out at u after next
puts_is {out} {at} {after = after} {next = next} e f = subst (λ (t : List ℕ). Put out at t after next) e f

-- ---- one text behind another

-- two texts that make a whole, and a buffer that has room for it
pub record Parts (out : List ℕ) (at : ℕ) (t u whole : List ℕ) : Type 0 where
  pub joined : t ++ u ≡ whole
  pub fits : at + length whole ≤ length out

-- there is room for the first, and then for the second; both put are the whole
module _ {out : List ℕ} {at : ℕ} {t u whole : List ℕ} (p : Parts out at t u whole) where
  sum : length t + length u ≡ length whole
  sum = sym (length-append t u) ∙ ap length p.joined

  pub room_first : at + length t ≤ length out
  room_first = omega (arith, sum)

  pub room : {mid : List ℕ} {k : ℕ} → Put out at t mid k → k + length u ≤ length mid
  room f = omega (arith, sum, ap length f.bytes ∙ length_put out at t room_first)

  pub puts_both : {mid after : List ℕ} {k next : ℕ} → Put out at t mid k → Put mid k u after next → Put out at whole after next
  puts_both f g = record {
    bytes =
        g.bytes
        ∙ (λ i. put (f.bytes i) (f.end i) u)
        ∙ put_both out at t u (omega (arith, ap length p.joined))
        ∙ ap (put out at) p.joined;
    end = omega (arith, sum);
  }

-- ---- numbers

-- a number, the byte behind it and the rest
pub field_and : (n e : ℕ) (rest : List ℕ) → field_of n e [] ++ rest ≡ field_of n e rest
field_and n e rest = append_assoc (decimal n) (e ∷ []) rest

pub two_and : (a b e : ℕ) (rest : List ℕ) → field_of a blank (field_of b e []) ++ rest ≡ field_of a blank (field_of b e rest)
two_and a b e rest =
    append_assoc (decimal a) (blank ∷ field_of b e []) rest ∙ ap (λ (l : List ℕ). decimal a ++ blank ∷ l) (field_and b e rest)

-- a number of 32 bits has at most ten digits
pub field_length : (n e : ℕ) (rest : List ℕ) → n < 2 ^ 32 → length (field_of n e rest) ≤ 11 + length rest
field_length n e rest h = omega (arith, length-append (decimal n) (e ∷ rest), length_decimal 9 n (omega arith))

-- ---- digits from the last one on

-- a digit stored in front of those from `at` on
digit_before : (s : List ℕ) (at b : ℕ) → 1 ≤ at → at ≤ length s → drop (at - 1) (set s (at - 1) b) ≡ b ∷ drop at s
digit_before s at b h g =
    let k = at - 1 in
    let e : suc k ≡ at = omega arith in
    drop-cons (set s k b) k 0 (omega (arith, length-set s k b))
    ∙ (λ i. get_or-set_same s k b 0 (omega arith) i ∷ drop-set-lt (suc k) s k b (omega arith) i)
    ∙ ap (λ (j : ℕ). b ∷ drop j s) e

-- the digits of a number n are those of r and the ones in scratch from `at` on
pub record Digits (n r : ℕ) (scratch : List ℕ) (at : ℕ) : Type 0 where
  pub within : at ≤ length scratch
  pub digits : decimal n ≡ decimal r ++ drop at scratch

module _ {n r at : ℕ} {s : List ℕ} (d : Digits n r s at) where
  pub digits_left : length (decimal n) + at ≡ length (decimal r) + length s
  digits_left =
      let all = ap length d.digits ∙ length-append (decimal r) (drop at s) in
      omega (arith, d.within, length-drop at s)

  -- a buffer with room for all digits has room for one more
  pub more : (old : List ℕ) → length s ≡ length old → length (decimal n) ≤ length old → 1 ≤ at
  more old e h = omega (arith, digits_left, some_digit r)

  -- the last digit of r is stored in front of them
  module _ (b : ℕ) (one : 1 ≤ at) where
    pub digit_stored : 10 ≤ r → b ≡ digit (r % 10) → Digits n (r / 10) (set s (at - 1) b) (at - 1)
    digit_stored more e = record {
      within = omega (arith, d.within, length-set s (at - 1) b);
      digits =
          d.digits
          ∙ ap (λ (l : List ℕ). l ++ drop at s) (decimal_more r more ∙ ap (λ (b : ℕ). decimal (r / 10) ++ b ∷ []) (sym e))
          ∙ append_assoc (decimal (r / 10)) (b ∷ []) (drop at s)
          ∙ ap (λ (l : List ℕ). decimal (r / 10) ++ l) (sym (digit_before s at b one d.within));
    }

    -- which is the first one where it is all that is left
    pub first_stored : r < 10 → b ≡ digit r → drop (at - 1) (set s (at - 1) b) ≡ decimal n
    first_stored last e =
        digit_before s at b one d.within
        ∙ sym (d.digits ∙ ap (λ (l : List ℕ). l ++ drop at s) (decimal_small r last ∙ ap (λ (b : ℕ). b ∷ []) (sym e)))
