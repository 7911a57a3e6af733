-- The lines of an answer: how they are put together, and that there is room for them.
use Prim.Native.Nat.{ℕ, ◌+◌, ◌-◌, ◌^◌, ◌≤◌, ◌<◌}
use mathlib.Core.Path.{◌≡◌, refl, sym, ap, ◌∙◌}
use mathlib.Core.List.{List, [], ◌∷◌, ◌++◌}
use native.Mathlib.Omega.{arith}
use lib.ListN.{length, take, drop, length-append}
use Rattle.grid.specs.declared.Cell.{Cell}
use Rattle.step_letters.specs.Letters.{letters_of, with_letters}
use Rattle.step_letters.proofs.Lists.{length_letters, steps_and_one}
use Rattle.text.specs.Field.{blank, line_feed, field_of}
use Rattle.text.specs.Put.{put, Put}
use Rattle.text.proofs.Puts.{Parts, room, two_and, field_length}
use Rattle.squares.specs.Squares.{squares}
use Rattle.printout.specs.Text.{heading, refused_word, refused_text, counts_text, answer_text, text_room}

-- the line of counts is two numbers and two numbers
pub counts_and : (class cells squares : ℕ) {steps : ℕ} → steps ≡ cells - 1
    → field_of class blank (field_of cells blank []) ++ field_of steps blank (field_of squares line_feed []) ≡ counts_text class cells squares
counts_and class cells squares e =
    two_and class cells blank _ ∙ ap (λ (k : ℕ). field_of class blank (field_of cells blank (field_of k blank (field_of squares line_feed [])))) e

-- the steps that follow from a count of cells are as many as the letters
pub steps_letters : (l : List Cell) {steps : ℕ} → 1 ≤ length l → steps + 1 ≡ length l → steps ≡ length (letters_of l)
steps_letters l h e = omega (arith, length_letters l, steps_and_one l h)

-- letters written behind a place are a text put there
pub letters_put : (l : List Cell) (out : List ℕ) (at : ℕ) → with_letters at l out ≡ put out at (letters_of l)
unfolding put
letters_put l out at = ap (λ (k : ℕ). take at out ++ (letters_of l ++ drop (at + k) out)) (sym (length_letters l))

-- ---- room: numbers of 32 bits, and a letter for each step of 16,384 cells at most

pub refused_room : (n : ℕ) → n < 2 ^ 32 → length (refused_text n) ≤ text_room
refused_room n h = omega (arith, field_length n line_feed [] h)

-- the word and the number behind it
pub refused_parts : (n : ℕ) (out : List ℕ) → n < 2 ^ 32 → text_room ≤ length out
    → Parts out 0 refused_word (field_of n line_feed []) (refused_text n)
refused_parts n out h fits = record { joined = refl; fits = omega (arith, refused_room n h) }

pub letters_few : (l : List Cell) → 1 ≤ length l → length l ≤ 16384 → length (letters_of l) ≤ 16383
letters_few l h g = omega (arith, length_letters l, steps_and_one l h)

pub answer_room : (class cells squares : ℕ) (letters : List ℕ) → class < 2 ^ 32 → cells < 2 ^ 32 → squares < 2 ^ 32 → length letters ≤ 16383
    → length (heading ++ (counts_text class cells squares ++ (letters ++ line_feed ∷ []))) ≤ text_room
answer_room class cells squares letters c n q l =
    let in-squares = field_of squares line_feed [] in
    let in-steps = field_of (cells - 1) blank in-squares in
    let in_cells = field_of cells blank in-steps in
    omega (
      arith,
      length-append (counts_text class cells squares) (letters ++ line_feed ∷ []),
      length-append letters (line_feed ∷ []),
      field_length class blank in_cells c,
      field_length cells blank in-steps n,
      field_length (cells - 1) blank in-squares (omega arith),
      field_length squares line_feed [] q,
    )

-- the heading and the rest
pub answer_parts : (out : List ℕ) (class : ℕ) (track : List Cell) {cells count : ℕ} → class < 2 ^ 32 → cells ≡ length track → count ≡ squares track
    → 1 ≤ cells → cells ≤ 16384 → count < 2 ^ 32 → text_room ≤ length out
    → Parts out 0 heading (counts_text class cells count ++ (letters_of track ++ line_feed ∷ [])) (answer_text class track)
answer_parts out class track {cells} {count} c n q some few small fits =
    let line = letters_of track ++ line_feed ∷ [] in
    let letters = letters_few track (omega arith) (omega arith) in
    let room = answer_room class cells count (letters_of track) c (omega arith) small letters in
    let is_text : heading ++ (counts_text class cells count ++ line) ≡ answer_text class track =
    λ i. heading ++ (counts_text class (n i) (q i) ++ line) in
    record { joined = is_text; fits = omega (arith, ap length is_text) }

-- behind the heading: the counts and the letters' line
pub counts_parts : {out mid word counts line whole : List ℕ} {at k : ℕ} → Parts out at word (counts ++ line) whole → Put out at word mid k
    → Parts mid k counts line (counts ++ line)
counts_parts first f = record { joined = refl; fits = room first f }

-- and behind the counts: the letters and the line feed
pub line_parts : {out mid counts letters end whole : List ℕ} {at k : ℕ} → Parts out at counts (letters ++ end) whole → Put out at counts mid k
    → Parts mid k letters end (letters ++ end)
line_parts second f = record { joined = refl; fits = room second f }
