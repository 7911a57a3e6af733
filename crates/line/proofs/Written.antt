-- A line written cell by cell: the buffer begins with the bytes of the cells so far, and is the old one behind them.
-- One law for a turn of the loop, whatever the direction.
use Rattle.std.proofs.Common.{◌≡◌, ℕ, ◌+◌, ◌*◌, ◌%◌, ◌<◌, ◌≤◌, List, [], ◌∷◌, ◌++◌, length, drop, set, sym, refl, ap, ◌∙◌, append_assoc, mul-suc, add-one, arith, length-append, length-drop, length-set, drop-drop}
use lib.Seq.{set_at}
use Rattle.grid.specs.declared.Cell.{Cell}
use Rattle.grid.specs.Bytes.{bytes}
use Rattle.grid.proofs.Bytes.{bytes_append, length_bytes}
use Rattle.line.specs.Line.{line}
use Rattle.line.specs.Drawn.{written}
use Rattle.line.proofs.Line.{length_line, line_more}

-- a cell written behind a list's bytes
write_cell : (p b : List ℕ) (j u v : ℕ) → length p ≡ j → j + 2 ≤ length p + length b
    → set (set (p ++ b) j u) (j + 1) v ≡ (p ++ (u ∷ v ∷ [])) ++ drop 2 b
write_cell p [] j u v e h = absurd (omega arith)
write_cell p (c ∷ []) j u v e h = absurd (omega arith)
write_cell p (c ∷ d ∷ b) j u v e h =
    ap (λ (l : List ℕ). set l (j + 1) v) (set_at p c (d ∷ b) u j e)
    ∙ ap (λ (l : List ℕ). set l (j + 1) v) (sym (append_assoc p (u ∷ []) (d ∷ b)))
    ∙ set_at (p ++ (u ∷ [])) d b v (j + 1) (length-append p (u ∷ []) ∙ omega arith)
    ∙ append_assoc p (u ∷ []) (v ∷ b)
    ∙ sym (append_assoc p (u ∷ v ∷ []) b)

-- the first i of n cells are written
pub record Written (f : ℕ → Cell) (n : ℕ) (old new : List ℕ) (i : ℕ) : Type 0 where
  pub most : i ≤ n
  pub long : length new ≡ length old
  pub content : new ≡ written (line f i) i old

module _ (f : ℕ → Cell) (n : ℕ) (old : List ℕ) where
  pub none : Written f n old old 0
  none = record { most = omega arith; long = refl; content = refl }

  pub more : (new : List ℕ) (i u v : ℕ) → Written f n old new i → 2 * n ≤ length old → i < n → u ≡ (f i).x → v ≡ (f i).y
      → Written f n old (set (set new (2 * i) u) (2 * i + 1) v) (i + 1)
  more new i u v w h l p q = record {
    most = omega arith;
    long = length-set (set new (2 * i) u) (2 * i + 1) v ∙ length-set new (2 * i) u ∙ w.long;
    content =
        ap (λ (b : List ℕ). set (set b (2 * i) u) (2 * i + 1) v) w.content
        ∙ write_cell (bytes (line f i)) (drop (2 * i) old) (2 * i) u v size room
        ∙ (λ j. (bytes (line f i) ++ (p j ∷ q j ∷ [])) ++ rest j)
        ∙ ap (λ (b : List ℕ). b ++ drop (2 * (i + 1)) old) one_more;
  }
    where
      size : length (bytes (line f i)) ≡ 2 * i
      size = length_bytes (line f i) ∙ ap (λ (k : ℕ). 2 * k) (length_line f i)

      room : 2 * i + 2 ≤ length (bytes (line f i)) + length (drop (2 * i) old)
      room = omega (arith, size, length-drop (2 * i) old)

      one_more : bytes (line f i) ++ bytes (f i ∷ []) ≡ bytes (line f (i + 1))
      one_more = sym (bytes_append (line f i) (f i ∷ [])) ∙ ap bytes (sym (line_more f i) ∙ ap (line f) (sym (add-one i)))

      rest : drop 2 (drop (2 * i) old) ≡ drop (2 * (i + 1)) old
      rest = let e : 2 * i + 2 ≡ 2 * (i + 1) = omega arith in drop-drop 2 (2 * i) old ∙ ap (λ (k : ℕ). drop k old) e

  -- the whole line
  pub whole : (new : List ℕ) (i : ℕ) → Written f n old new i → n ≤ i → new ≡ written (line f n) n old
  whole new i w h = let e : i ≡ n = omega (arith, w.most) in w.content ∙ ap (λ (k : ℕ). written (line f k) k old) e

-- the number of the next cell
pub next_number : (f s i : ℕ) {cell next : ℕ} → cell ≡ (f + s * i) % 65536 → next ≡ (cell + s) % 65536 → next ≡ (f + s * (i + 1)) % 65536
next_number f s i e h = let m : s * (i + 1) ≡ s * i + s = ap (λ (j : ℕ). s * j) (add-one i) ∙ mul-suc s i in omega arith
