-- Lines there and back, drawn one behind another: what has been drawn, and the lines that are left from here on, are together the lines asked for.
use Rattle.std.proofs.Common.{◌≡◌, ℕ, zero, suc, ◌+◌, ◌-◌, ◌*◌, ◌%◌, ◌<◌, ◌≤◌, List, [], ◌++◌, length, take, drop, sym, refl, ap, ◌∙◌, subst₂, append_assoc, append-nil, add_comm, mul-le-mul_left, mul-zero, mul-suc, add-one, arith, length-append, length-drop}
use borrow.Rule.Slice.PartMut.{put_mid}
use Rattle.grid.specs.declared.Cell.{Cell}
use Rattle.grid.specs.Bytes.{bytes}
use Rattle.grid.proofs.Bytes.{length_bytes}
use Rattle.line.specs.Line.{line, numbered, snake}
use Rattle.line.specs.Drawn.{written}
use Rattle.line.proofs.Line.{length_line}
use Rattle.line.proofs.Drawn.{part_behind, part_long}

-- the length of the lines
pub length_snake : (f s r c n k : ℕ) → length (snake f s r c n k) ≡ n * k
length_snake f s r c n zero = sym (mul-zero n)
length_snake f s r c n (suc k) =
    length-append (line (numbered f s) n) _
    ∙ (λ i. length_line (numbered f s) n i + length_snake ((f + s * (n - 1) + c) % 65536) r s c n k i)
    ∙ add_comm n (n * k) ∙ sym (mul-suc n k)

-- i of k lines stand in the first `at` bytes; the next one begins at `from`
pub record Snaked (f s r c n k : ℕ) (old new : List ℕ) (from way other at i : ℕ) : Type 0 where
  pub left : ℕ
  pub turns : i + left ≡ k
  pub cells : List Cell
  pub size : 2 * length cells ≡ at
  pub so_far : at ≡ 2 * (n * i)
  pub whole : snake f s r c n k ≡ cells ++ snake from way other c n left
  pub written : new ≡ bytes cells ++ drop at old

module _ {f s r c n k : ℕ} {old : List ℕ} where
  pub same_place : {new : List ℕ} {from way other at at' i i' : ℕ} → at ≡ at' → i ≡ i'
      → Snaked f s r c n k old new from way other at i → Snaked f s r c n k old new from way other at' i'
  same_place {new} {from} {way} {other} p q d = subst₂ (λ (at i : ℕ). Snaked f s r c n k old new from way other at i) p q d

  module _ (room_for : 2 * (n * k) ≤ length old) where
    pub none : Snaked f s r c n k old old f s r 0 0
    none = record {
      left = k;
      turns = omega arith;
      cells = [];
      size = refl;
      so_far = ap (λ (j : ℕ). 2 * j) (sym (mul-zero n));
      whole = refl;
      written = refl;
    }

    module _ {new : List ℕ} {from way other at i : ℕ} (d : Snaked f s r c n k old new from way other at i) where
      one_more : n * (i + 1) ≡ n * i + n
      one_more = ap (λ (j : ℕ). n * j) (add-one i) ∙ mul-suc n i

      pub so_long : length new ≡ length old
      so_long =
          let l : n * i ≤ n * k = mul-le-mul_left n (omega (arith, d.turns)) in
          ap length d.written ∙ length-append (bytes d.cells) (drop at old)
          ∙ omega (arith, length_bytes d.cells, length-drop at old, d.size, d.so_far)

      pub room : i < k → at + 2 * n ≤ length new
      room h =
          let l : n * (i + 1) ≤ n * k = mul-le-mul_left n (omega arith) in
          omega (arith, one_more, so_long, d.so_far)

      -- what the next line asks for
      pub fits : i < k → 2 * n ≤ length (take (length new - at) (drop at new))
      fits h = let o = room h in omega (arith, part_long new at (omega arith))

      pub more : {next : ℕ} {part : List ℕ} → i < k → next ≡ (from + way * (n - 1) + c) % 65536
          → part ≡ written (line (numbered from way) n) n (take (length new - at) (drop at new))
          → Snaked f s r c n k old (put_mid at (length new - at) new part) next other way (at + 2 * n) (i + 1)
      more {next} {part} h z e = go d.left d.turns d.whole
        where
          this : List Cell
          this = line (numbered from way) n

          go : (left : ℕ) → i + left ≡ k → snake f s r c n k ≡ d.cells ++ snake from way other c n left
              → Snaked f s r c n k old (put_mid at (length new - at) new part) next other way (at + 2 * n) (i + 1)
          go zero t w = absurd (omega arith)
          go (suc left) t w = record {
            left = left;
            turns = omega arith;
            cells = d.cells ++ this;
            size = omega (arith, length-append d.cells this, length_line (numbered from way) n, d.size);
            so_far = omega (arith, one_more, d.so_far);
            whole = w ∙ sym (append_assoc d.cells this _) ∙ ap (λ (j : ℕ). (d.cells ++ this) ++ snake j other way c n left) (sym z);
            written = part_behind d.cells this old new part at n d.written d.size (let l = room h in omega arith) e;
          }

      -- all lines
      pub all : k ≤ i → new ≡ written (snake f s r c n k) (n * k) old
      all h = go d.left d.turns d.whole
        where
          go : (left : ℕ) → i + left ≡ k → snake f s r c n k ≡ d.cells ++ snake from way other c n left
              → new ≡ written (snake f s r c n k) (n * k) old
          go zero t w =
              let e : i ≡ k = omega arith in
              let at_all : at ≡ 2 * (n * k) = d.so_far ∙ ap (λ (i : ℕ). 2 * (n * i)) e in
              d.written ∙ (λ j. bytes (sym (w ∙ append-nil d.cells) j) ++ drop (at_all j) old)
          go (suc left) t w = absurd (omega arith)
