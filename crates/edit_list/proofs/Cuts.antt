-- The bytes of the first n cells of a buffer, cut at a place; and what is put into the buffer there, or taken out.
use Prim.Native.Nat.{ℕ, ◌+◌, ◌-◌, ◌*◌, ◌≤◌}
use native.Mathlib.Omega.{arith}
use mathlib.Core.Path.{◌≡◌, sym, ap, ◌∙◌}
use mathlib.Core.List.{List, [], ◌∷◌, ◌++◌, append_assoc}
use lib.ListN.{length, take, drop, length-drop, length-append, take-append-drop}
use lib.Seq.{paste, length-take-le, take-take, take-add, take_at, drop_at, take-append-le, take-paste}
use Rattle.grid.specs.declared.Cell.{Cell}
use Rattle.grid.specs.Bytes.{bytes, front}
use Rattle.grid.proofs.Bytes.{bytes_append, length_bytes}
use Rattle.list.proofs.Cells.{bytes_cells, length_cells}

module _ (b : List ℕ) (n : ℕ) (held : 2 * n ≤ length b) where
  size : length (take (2 * n) b) ≡ 2 * n
  size = length-take-le (2 * n) b held

  pub length_front : length (front n b) ≡ n
  length_front = omega (arith, length_cells (take (2 * n) b), size)

  front_is : bytes (front n b) ≡ take (2 * n) b
  front_is = bytes_cells (take (2 * n) b) (omega (arith, size))

  module _ (k : ℕ) (within : k ≤ n) where
    cut_size : length (bytes (take k (front n b))) ≡ 2 * k
    cut_size = length_bytes (take k (front n b)) ∙ ap (λ (j : ℕ). 2 * j) (length-take-le k (front n b) (omega (arith, length_front)))

    parts : take (2 * n) b ≡ bytes (take k (front n b)) ++ bytes (drop k (front n b))
    parts =
        sym front_is
        ∙ ap bytes (sym (take-append-drop k (front n b)))
        ∙ bytes_append (take k (front n b)) (drop k (front n b))

    bytes_before : take (2 * k) b ≡ bytes (take k (front n b))
    bytes_before =
        sym (take-take (2 * k) (2 * n) b (omega arith))
        ∙ ap (take (2 * k)) parts
        ∙ take_at (bytes (take k (front n b))) (bytes (drop k (front n b))) (2 * k) cut_size

    bytes_from_lem : take (2 * n - 2 * k) (drop (2 * k) b) ≡ bytes (drop k (front n b))
    bytes_from_lem =
        let whole : 2 * k + (2 * n - 2 * k) ≡ 2 * n = omega arith in
        let before = take (2 * k) b in
        sym (drop_at before (take (2 * n - 2 * k) (drop (2 * k) b)) (2 * k) (length-take-le (2 * k) b (omega arith)))
        ∙ ap (drop (2 * k)) (sym (take-add (2 * k) (2 * n - 2 * k) b) ∙ ap (λ (j : ℕ). take j b) whole ∙ parts)
        ∙ drop_at (bytes (take k (front n b))) (bytes (drop k (front n b))) (2 * k) cut_size

  -- ---- a detour put in behind the first k cells

  module _ (room : 2 * (n + 2) ≤ length b) (k : ℕ) (within : k ≤ n) (c d : Cell) where
    abbrev slid : List ℕ
    slid = paste b (2 * k + 4) (drop (2 * k) b) (2 * n - 2 * k)

    abbrev opened : List ℕ
    opened = paste slid (2 * k) (bytes (c ∷ d ∷ [])) 4

    abbrev moved : List ℕ
    moved = take (2 * n - 2 * k) (drop (2 * k) b)

    moved_size : length moved ≡ 2 * n - 2 * k
    moved_size = length-take-le (2 * n - 2 * k) (drop (2 * k) b) (omega (arith, length-drop (2 * k) b))

    abbrev rest : List ℕ
    rest = drop (2 * k + 4 + (2 * n - 2 * k)) b

    head_size : length (take (2 * k + 4) b) ≡ 2 * k + 4
    head_size = length-take-le (2 * k + 4) b (omega arith)

    slid_parts : slid ≡ take (2 * k + 4) b ++ (moved ++ rest)
    slid_parts = append_assoc (take (2 * k + 4) b) moved rest

    slid_before : take (2 * k) slid ≡ take (2 * k) b
    slid_before =
        ap (take (2 * k)) slid_parts
        ∙ take-append-le (2 * k) (take (2 * k + 4) b) (moved ++ rest) (omega (arith, head_size))
        ∙ take-take (2 * k) (2 * k + 4) b (omega arith)

    slid_behind : drop (2 * k + 4) slid ≡ moved ++ rest
    slid_behind = ap (drop (2 * k + 4)) slid_parts ∙ drop_at (take (2 * k + 4) b) (moved ++ rest) (2 * k + 4) head_size

    abbrev filled : List ℕ
    filled = take (2 * k) b ++ bytes (c ∷ d ∷ [])

    opened_parts : opened ≡ (filled ++ moved) ++ rest
    opened_parts =
        (λ i. slid_before i ++ bytes (c ∷ d ∷ []) ++ slid_behind i) ∙ sym (append_assoc filled moved rest)

    filled_size : length (filled ++ moved) ≡ 2 * (n + 2)
    filled_size =
        omega (
          arith,
          length-append filled moved,
          length-append (take (2 * k) b) (bytes (c ∷ d ∷ [])),
          moved_size,
          length-take-le (2 * k) b (omega arith),
        )

    pub opened_cells : take (2 * (n + 2)) opened ≡ bytes (take k (front n b) ++ (c ∷ d ∷ [] ++ drop k (front n b)))
    opened_cells =
        ap (take (2 * (n + 2))) opened_parts
        ∙ take_at (filled ++ moved) rest (2 * (n + 2)) filled_size
        ∙ (λ i. bytes_before k within i ++ bytes (c ∷ d ∷ []) ++ bytes_from_lem k within i)
        ∙ append_assoc (bytes (take k (front n b))) (bytes (c ∷ d ∷ [])) (bytes (drop k (front n b)))
        ∙ sym (bytes_append (take k (front n b)) (c ∷ d ∷ drop k (front n b)))

  -- ---- two cells taken out behind the first k

  module _ (k : ℕ) (within : k + 2 ≤ n) where
    pub closed_cells : take (2 * (n - 2)) (paste b (2 * k) (drop (2 * k + 4) b) (2 * n - (2 * k + 4)))
        ≡ bytes (take k (front n b) ++ drop (k + 2) (front n b))
    closed_cells =
        let behind : 2 * k + 4 ≡ 2 * (k + 2) = omega arith in
        let count : 2 * n - (2 * k + 4) ≡ 2 * n - 2 * (k + 2) = omega arith in
        let whole : 2 * (n - 2) ≡ 2 * k + (2 * n - (2 * k + 4)) = omega arith in
        let ahead = drop (2 * k + 4) b in
        let moved = 2 * n - (2 * k + 4) in
        ap (λ (j : ℕ). take j (paste b (2 * k) ahead moved)) whole
        ∙ take-paste b (2 * k) ahead moved (omega arith) (omega (arith, length-drop (2 * k + 4) b))
        ∙ (λ i. bytes_before k (omega arith) i ++ take (count i) (drop (behind i) b))
        ∙ ap (λ (m : List ℕ). bytes (take k (front n b)) ++ m) (bytes_from_lem (k + 2) within)
        ∙ sym (bytes_append (take k (front n b)) (drop (k + 2) (front n b)))
