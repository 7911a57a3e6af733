-- Cells drawn into a part of a buffer that was lent, one list behind another.
use Rattle.std.proofs.Common.{◌≡◌, ℕ, ◌+◌, ◌-◌, ◌*◌, ◌≤◌, List, [], ◌++◌, length, take, drop, sym, ap, ◌∙◌, append_assoc, append-nil, arith, length-append, length-drop, drop_of_length-le, length-take, take_all, drop-drop, take_at, drop_at}
use borrow.Rule.Slice.PartMut.{put_mid}
use Rattle.grid.specs.declared.Cell.{Cell}
use Rattle.grid.specs.Bytes.{bytes, front}
use Rattle.grid.proofs.Bytes.{bytes_append, length_bytes, front_bytes}
use Rattle.line.specs.Drawn.{written}

-- a part from `at` to the end, lent to a drawing function and back again: what lies before it stays, and the cells stand at its front
pub part_written : (b part : List ℕ) (at k : ℕ) (l : List Cell) → at ≤ length b → part ≡ written l k (take (length b - at) (drop at b))
    → put_mid at (length b - at) b part ≡ take at b ++ (bytes l ++ drop (at + 2 * k) b)
part_written b part at k l h e =
    ap (λ (r : List ℕ). take at b ++ r)
    (ap (λ (r : List ℕ). part ++ r) nothing ∙ append-nil part ∙ e
    ∙ ap (λ (r : List ℕ). bytes l ++ r) (ap (drop (2 * k)) all ∙ drop-drop (2 * k) at b))
  where
    size : length (drop at b) ≤ length b - at
    size = omega (arith, length-drop at b)

    all : take (length b - at) (drop at b) ≡ drop at b
    all = take_all (length b - at) (drop at b) size

    nothing : drop (length b - at) (drop at b) ≡ []
    nothing = drop_of_length-le (drop at b) size

-- the same behind cells drawn before
pub part_behind : (l m : List Cell) (old new part : List ℕ) (at k : ℕ) → new ≡ bytes l ++ drop at old → 2 * length l ≡ at → at ≤ length new
    → part ≡ written m k (take (length new - at) (drop at new)) → put_mid at (length new - at) new part ≡ bytes (l ++ m) ++ drop (at + 2 * k) old
part_behind l m old new part at k w s h e =
    part_written new part at k m h e
    ∙ (λ i. front i ++ (bytes m ++ rest i))
    ∙ sym (append_assoc (bytes l) (bytes m) (drop (at + 2 * k) old))
    ∙ ap (λ (r : List ℕ). r ++ drop (at + 2 * k) old) (sym (bytes_append l m))
  where
    size : length (bytes l) ≡ at
    size = length_bytes l ∙ s

    front : take at new ≡ bytes l
    front = ap (take at) w ∙ take_at (bytes l) (drop at old) at size

    rest : drop (at + 2 * k) new ≡ drop (at + 2 * k) old
    rest =
        sym (drop-drop (2 * k) at new)
        ∙ ap (drop (2 * k)) (ap (drop at) w ∙ drop_at (bytes l) (drop at old) at size)
        ∙ drop-drop (2 * k) at old

pub part_long : (b : List ℕ) (at : ℕ) → at ≤ length b → length (take (length b - at) (drop at b)) ≡ length b - at
part_long b at h = length-take (length b - at) (drop at b) ∙ omega (arith, length-drop at b)

-- a drawing keeps the buffer's length
pub written_long : (l : List Cell) (old : List ℕ) {k : ℕ} {new : List ℕ} → length l ≡ k → 2 * k ≤ length old → new ≡ written l k old
    → length new ≡ length old
written_long l old {k} e h w =
    ap length w ∙ length-append (bytes l) (drop (2 * k) old) ∙ omega (arith, length_bytes l, length-drop (2 * k) old)

-- the cells written are read from its front, and behind them it is the old one
module _ (l : List Cell) (old : List ℕ) {k : ℕ} {new : List ℕ} (e : length l ≡ k) (w : new ≡ written l k old) where
  pub written_front : front k new ≡ l
  written_front = (λ i. front (sym e i) (w i)) ∙ front_bytes l (drop (2 * k) old)

  pub written_behind : drop (2 * k) new ≡ drop (2 * k) old
  written_behind = ap (drop (2 * k)) w ∙ drop_at (bytes l) (drop (2 * k) old) (2 * k) (length_bytes l ∙ ap (λ (n : ℕ). 2 * n) e)
