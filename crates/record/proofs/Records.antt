-- Theorems on records, over the definitions that the three calls are proved against:
--   reads-back     what Write makes, Read reads back as its panel and list, whatever follows it in the file
--   writes-back    every record that Read accepts is byte for byte the one that Write makes of the panel and list read
--   read-empty     Read with an empty buffer gives 5 exactly where Letters is not refused
--   letters-read   what Letters hands back are the letters of the list read
use Rattle.std.specs.Prelude.{Result, Ok, Err}
use Prim.Native.Nat.{ℕ, suc, ◌+◌, ◌*◌, ◌≤◌, ◌<◌}
use mathlib.Core.Path.{◌≡◌, refl, sym, ap, ap₂, ◌∙◌}
use mathlib.Core.Bool.{Bool, true, false}
use mathlib.Core.Logic.{◌↔◌}
use mathlib.Core.List.{List, [], ◌∷◌, ◌++◌}
use native.Mathlib.Omega.{arith}
use lib.ListN.{length, take, drop, get_or, length-append, length-drop}
use lib.Seq.{take_at, take-add, length-take-le}
use lib.Dec.{leb, ltb}
use borrow.Author.Tests.{le-leb, lt-leb}
use Rattle.grid.specs.declared.Cell.{Cell}
use Rattle.grid.specs.declared.Panel.{Panel}
use Rattle.grid.specs.declared.Refusal.{Refusal}
use Rattle.grid.specs.declared.Refusal.TheVariants.{Mark, CutShort, Side, Pitch, EntryOff, StepCount, UnknownByte, CellOff, ShortBuffer}
use Rattle.grid.specs.Check.{Check}
use Rattle.grid.specs.Refusal.{number}
use Rattle.grid.specs.Panel.{area, on_panel, good_sides, good_pitch}
use Rattle.grid.specs.Bytes.{bytes, cells_in}
use Rattle.grid.specs.Check.{check_panel, check_entry, expect, after, answer}
use Rattle.grid.specs.Answer.{bytes_values}
use Rattle.grid.proofs.Bytes.{length_bytes, cells_bytes}
use Rattle.grid.proofs.Facts.{clash, and_parts}
use Rattle.grid.proofs.Passed.{after_passed}
use Rattle.grid.proofs.Tests.{expect_yes, expect_no, after_good, answer_good, answer_refused}
use Rattle.list.specs.List.{all_on, all_steps, with_cells}
use Rattle.list.specs.Check.{check_list}
use Rattle.list.proofs.Cells.{bytes_cells}
use Rattle.list.proofs.Whole.{whole}
use Rattle.list.proofs.Checks.{GoodList, list_whole, list_good, is_list_good}
use Rattle.step_letters.specs.Letters.{letters_from, letters_of, all_known, walk_on, walk_from}
use Rattle.step_letters.proofs.Lists.{length_letters_from}
use Rattle.step_letters.proofs.Directions.{known_letters, walk_letters, letters_walk}
use Rattle.record_head.specs.Head.{head_length, head_of, has_mark, panel_in, entry_in, steps_in, letters_in, check_head}
use Rattle.record_head.proofs.Heads.{panel_back, entry_back, steps_back, letters_back, head_back, head_is}
use Rattle.record.specs.declared.Recorded.{Recorded}
use Rattle.record.specs.Write.{record_of, record_length, check_write, write_answer, write_buffer, record_made}
use Rattle.record.specs.Read.{check_known, cells_read, check_record, check_read, recorded, read_answer, read_buffer, read_values, list_read, letters_answer}
use Rattle.record.proofs.Walks.{length_walk}
use Rattle.record.proofs.Answers.{GoodRecord, record_good}

-- ---- a record in front of anything

module _ (p : Panel) (s : Cell) (l : List Cell) (rest : List ℕ) where
  abbrev file : List ℕ
  file = record_of p (s ∷ l) ++ rest

  abbrev behind : List ℕ
  behind = letters_from s l ++ rest

  letters_written : letters_in file ≡ letters_from s l
  letters_written = letters_back p s (length l) behind ∙ take_at (letters_from s l) rest (length l) (length_letters_from s l)

  module _ (g : GoodList p (s ∷ l)) where
    cells_written : cells_read file ≡ s ∷ l
    cells_written =
        ap₂ walk_from (entry_back p s (length l) behind) letters_written ∙ ap (λ (k : List Cell). s ∷ k) (walk_letters s l g.next)

    accepted : check_record file ≡ Ok tt
    accepted =
        let few : suc (length l) ≤ area p = g.few in
        let fits : length l ≤ length behind = omega (arith, length-append (letters_from s l) rest, length_letters_from s l) in
        let on = (and_parts (on_panel p s) (all_on p l) g.on).0 in
        let head = head_back p s (length l) behind g.panel on (omega arith) fits in
        let letters = ap all_known letters_written ∙ known_letters s l in
        let cells = ap₂ all_on (panel_back p s (length l) behind) cells_written ∙ g.on in
        sym (after_good _ head (after_good _ (sym (expect_yes _ _ letters refl)) (expect_yes _ _ cells refl)))

-- Read takes the record of every good list
read_record : (p : Panel) (l : List Cell) (rest buffer : List ℕ) → GoodList p l → 2 * length l ≤ length buffer
    → (read_answer (record_of p l ++ rest) buffer ≡ Ok (recorded p (length l) (record_length l)))
    × (read_buffer (record_of p l ++ rest) buffer ≡ with_cells l buffer)
read_record p [] rest buffer g room = let none : 1 ≤ 0 = g.some in absurd (omega arith)
read_record p (s ∷ l) rest buffer g room =
    let f = file p s l rest in
    let r = behind p s l rest in
    let panel = panel_back p s (length l) r in
    let cells = cells_written p s l rest g in
    let steps = steps_back p s (length l) r in
    let fits = le-leb (2 * length (cells_read f)) (length buffer) (omega (arith, ap length cells)) in
    let e : check_read f buffer ≡ (Ok tt) = sym (after_good _ (accepted p s l rest g) (expect_yes _ _ fits refl)) in (
      sym (answer_good _ _ e (sym (λ i. Ok (recorded (panel i) (length (cells i)) (head_length + steps i))))),
      sym (answer_good _ _ e (sym (ap (λ (k : List Cell). with_cells k buffer) cells))),
    )

-- ---- what Write makes

length_record : (p : Panel) (l : List Cell) → 1 ≤ length l → length (record_of p l) ≡ record_length l
length_record p [] h = absurd (omega arith)
length_record p (s ∷ l) h = omega (arith, length_letters_from s l)

written : (p : Panel) (list out : List ℕ) → check_write p list out ≡ Ok tt
    → (write_answer p list out ≡ Ok (record_length (cells_in list))) × (record_made p list out ≡ record_of p (cells_in list))
written p list out e =
    let l = cells_in list in
    let g = list_good p list (after_passed (check_list p list) _ e) in
    let a : write_answer p list out ≡ Ok (record_length l) = sym (answer_good _ _ e refl) in
    let b : write_buffer p list out ≡ record_of p l ++ drop (record_length l) out = sym (answer_good _ _ e refl) in (
      a,
      ap₂ (λ (w : Result ℕ Refusal) (o : List ℕ). take (bytes_values w).bytes o) a b
          ∙ take_at (record_of p l) _ (record_length l) (length_record p l g.some),
    )

pub reads_back : (p : Panel) (list out rest buffer : List ℕ) → check_write p list out ≡ Ok tt → length list ≤ length buffer
    → (read_answer (record_made p list out ++ rest) buffer
    ≡ Ok (recorded p (length (cells_in list)) (bytes_values (write_answer p list out)).bytes))
    × (read_buffer (record_made p list out ++ rest) buffer ≡ list ++ drop (length list) buffer)
reads_back p list out rest buffer e room =
    let l = cells_in list in
    let c = after_passed (check_list p list) _ e in
    let back = bytes_cells list (whole (length list) (list_whole p list c)).1 in
    let n : 2 * length l ≡ length list = sym (length_bytes l) ∙ ap length back in
    let (given, made) = written p list out e in
    let (read, cells) = read_record p l rest buffer (list_good p list c) (omega arith) in (
      ap (λ (k : List ℕ). read_answer (k ++ rest) buffer) made ∙ read
          ∙ ap (λ (a : Result ℕ Refusal). Ok (recorded p (length l) (bytes_values a).bytes)) (sym given),
      ap (λ (k : List ℕ). read_buffer (k ++ rest) buffer) made ∙ cells ∙ ap₂ (λ (b : List ℕ) (k : ℕ). b ++ drop k buffer) back n,
    )

-- ---- what Read accepts

module _ (f : List ℕ) (g : GoodRecord f) where
  length_read : length (letters_in f) ≡ steps_in f
  length_read = length-take-le (steps_in f) (drop head_length f) (omega (arith, length-drop head_length f, g.head.whole))

  walked : (letters_from (entry_in f) (walk_on (entry_in f) (letters_in f)) ≡ letters_in f) × (all_steps (cells_read f) ≡ true)
  walked = letters_walk (panel_in f) (entry_in f) (letters_in f) g.letters g.cells

  steps_read : length (walk_on (entry_in f) (letters_in f)) ≡ steps_in f
  steps_read = length_walk (entry_in f) (letters_in f) ∙ length_read

  list_of : GoodList (panel_in f) (cells_read f)
  list_of = record {
    panel = g.head.panel;
    on = g.cells;
    next = walked.1;
    some = omega arith;
    few = omega (arith, steps_read, g.head.few);
  }

  record_read : ((i : ℕ) → get_or f i 0 < 256) → take (head_length + steps_in f) f ≡ record_of (panel_in f) (cells_read f)
  record_read byte =
      take-add head_length (steps_in f) f
      ∙ ap₂ (λ (x y : List ℕ). x ++ y) (head_is f g.head byte) (sym walked.0)
      ∙ ap (λ (k : ℕ). head_of (panel_in f) (entry_in f) k ++ letters_from (entry_in f) (walk_on (entry_in f) (letters_in f))) (sym steps_read)

pub writes_back : (f buffer out : List ℕ) → ((i : ℕ) → get_or f i 0 < 256) → check_read f buffer ≡ Ok tt
    → let r = read_values (read_answer f buffer) in
    r.length ≤ length out
    → (write_answer r.panel (list_read f buffer) out ≡ Ok r.length)
    × (record_made r.panel (list_read f buffer) out ≡ take r.length f)
writes_back f buffer out byte e room =
    let g = record_good f (after_passed (check_record f) _ e) in
    let p = panel_in f in
    let l = cells_read f in
    let k = head_length + steps_in f in
    let a : read_answer f buffer ≡ Ok (recorded p (length l) k) = sym (answer_good _ _ e refl) in
    let b : read_buffer f buffer ≡ with_cells l buffer = sym (answer_good _ _ e refl) in
    let cells = ap₂ (λ (r : Result Recorded Refusal) (o : List ℕ). take (2 * (read_values r).cells.0) o) a b in
    let list : list_read f buffer ≡ bytes l = cells ∙ take_at (bytes l) _ (2 * length l) (length_bytes l) in
    let n : record_length (cells_in (bytes l)) ≡ k = ap record_length (cells_bytes l) ∙ ap (λ (j : ℕ). head_length + j) (steps_read f g) in
    let fits = le-leb (record_length (cells_in (bytes l))) (length out) (omega (arith, ap (λ (r : Result Recorded Refusal). (read_values r).length) a)) in
    let c : check_write p (bytes l) out ≡ (Ok tt) = sym (after_good _ (is_list_good p l (list_of f g)) (expect_yes _ _ fits refl)) in
    let (given, made) = written p (bytes l) out c in (
      ap₂ (λ (r : Result Recorded Refusal) (o : List ℕ). write_answer (read_values r).panel o out) a list ∙ given ∙ ap Ok n
          ∙ ap (λ (r : Result Recorded Refusal). Ok (read_values r).length) (sym a),
      ap₂ (λ (r : Result Recorded Refusal) (o : List ℕ). record_made (read_values r).panel o out) a list ∙ made ∙ ap (record_of p) (cells_bytes l)
          ∙ sym (record_read f g byte) ∙ ap (λ (r : Result Recorded Refusal). take (read_values r).length f) (sym a),
    )

-- ---- Letters

-- a check that never gives 5
abbrev NotFive : Check → Type 0
NotFive c = c ≡ Err ShortBuffer → ⊥

expect_not : (b : Bool) (r : Refusal) (k : Check) → (number r ≡ 5 → ⊥) → NotFive k → NotFive (expect b r k)
expect_not true r k h n e = n e
expect_not false r k h n e = let s : r ≡ ShortBuffer = cc in h (ap number s)

after_not : (c k : Check) → NotFive c → NotFive k → NotFive (after c k)
after_not (Ok tt) k m n = n
after_not (Err r) k m n = m

good_not : NotFive (Ok tt)
good_not e = clash (cc)

never_five : (f : List ℕ) → NotFive (check_record f)
never_five f =
    after_not (check_head f) _
    (expect_not (has_mark f) Mark _ (omega arith)
    (expect_not (leb head_length (length f)) CutShort _ (omega arith)
    (after_not (check_entry (panel_in f) (entry_in f)) _
    (after_not (check_panel (panel_in f)) _
    (expect_not (good_sides (panel_in f)) Side _ (omega arith)
    (expect_not (good_pitch (panel_in f)) Pitch (Ok tt) (omega arith) good_not))
    (expect_not (on_panel (panel_in f) (entry_in f)) EntryOff (Ok tt) (omega arith) good_not))
    (expect_not (ltb (steps_in f) (area (panel_in f))) StepCount _ (omega arith)
    (expect_not (leb (head_length + steps_in f) (length f)) CutShort (Ok tt) (omega arith) good_not)))))
    (after_not (check_known (letters_in f)) _
    (expect_not (all_known (letters_in f)) UnknownByte (Ok tt) (omega arith) good_not)
    (expect_not (all_on (panel_in f) (cells_read f)) CellOff (Ok tt) (omega arith) good_not))

five_behind : (c k : Check) (a : Result Recorded Refusal) → NotFive c → answer (after c k) Err a ≡ Err ShortBuffer → c ≡ Ok tt
five_behind (Ok tt) k a n e = refl
five_behind (Err r) k a n e = absurd (n (cc))

pub read_empty : (f : List ℕ) → (read_answer f [] ≡ Err ShortBuffer) ↔ (check_record f ≡ Ok tt)
read_empty f = (
  five_behind (check_record f) _ _ (never_five f),
  λ e. sym (answer_refused Err _ (sym (after_good _ e (expect_no _ _ (lt-leb (2 * length (cells_read f)) 0 (omega arith)))))),
)

pub letters_read : (f : List ℕ) → check_record f ≡ Ok tt → letters_answer f ≡ letters_of (cells_read f)
letters_read f e = sym (answer_good _ _ e (walked f (record_good f e)).0)

-- a record of one cell has no letters
pub no_letters : (f : List ℕ) → steps_in f ≡ 0 → letters_answer f ≡ []
no_letters f e = go (check_record f)
  where
    go : (c : Check) → answer c (λ r. []) (letters_in f) ≡ []
    go (Ok tt) = ap (λ (k : ℕ). take k (drop head_length f)) e
    go (Err r) = refl
