-- Document 01, "Record", with R-1's pitch: the head of a record, byte by byte, and "Read": what is refused of it, in order.
use Rattle.std.specs.Prelude.{ℕ, ◌+◌, ◌*◌, ◌/◌, ◌%◌, Bool, ◌&&◌, List, [], ◌∷◌, length, take, drop, get_or, leb, ltb, eqb, Ok}
use Rattle.grid.specs.declared.Panel.{Panel}
use Rattle.grid.specs.declared.Cell.{Cell}
use Rattle.grid.specs.declared.Refusal.TheVariants.{Mark, CutShort, StepCount}
use Rattle.grid.specs.Panel.{panel, area}
use Rattle.grid.specs.Check.{Check, check_entry, expect, after}
use Rattle.list.specs.List.{cell_at}
use Rattle.record_head.specs.declared.Head.{Head}

-- the mark (a magic number), 46 55: its first byte
abbrev pub mark_high : ℕ
mark_high = 0x46

-- its second byte
abbrev pub mark_low : ℕ
mark_low = 0x55

-- the head: mark, m, n, the pitch in two bytes, high first, entry x, entry y, the step count in two bytes, high first
abbrev pub head_of : Panel → Cell → ℕ → List ℕ
head_of p s k =
    mark_high ∷ mark_low ∷ p.width ∷ p.height ∷ (p.pitch / 256) ∷ (p.pitch % 256) ∷ s.x ∷ s.y ∷ (k / 256) ∷ (k % 256) ∷ []

-- where its fields stand, each behind the one before: m
abbrev pub width_at : ℕ
width_at = 2

-- n
abbrev pub height_at : ℕ
height_at = width_at + 1

-- the high byte of the pitch, and the low one behind it
abbrev pub pitch_at : ℕ
pitch_at = height_at + 1

-- entry x, and entry y behind it
abbrev pub entry_at : ℕ
entry_at = pitch_at + 2

-- the high byte of the step count, and the low one behind it
abbrev pub steps_at : ℕ
steps_at = entry_at + 2

-- the letters: as many bytes as the head has
abbrev pub head_length : ℕ
head_length = steps_at + 2

-- the file begins with the mark
unfoldable pub has_mark : List ℕ → Bool
has_mark f = leb 2 (length f) && (eqb (get_or f 0 0) mark_high && eqb (get_or f 1 0) mark_low)

-- bytes enough for a head
abbrev pub has_head : List ℕ → Bool
has_head f = leb head_length (length f)

-- the number in two bytes, by the places of its high byte and of its low one
abbrev pub pair_at : List ℕ → ℕ → ℕ → ℕ
pair_at f high low = 256 * get_or f high 0 + get_or f low 0

-- the panel in the head
abbrev pub panel_in : List ℕ → Panel
panel_in f = panel (get_or f width_at 0) (get_or f height_at 0) (pair_at f pitch_at (pitch_at + 1))

-- the entry in the head
abbrev pub entry_in : List ℕ → Cell
entry_in f = cell_at f entry_at

-- the step count in the head
abbrev pub steps_in : List ℕ → ℕ
steps_in f = pair_at f steps_at (steps_at + 1)

-- the three together
abbrev pub head_in : List ℕ → Head
head_in f = record { panel = panel_in f; entry = entry_in f; steps = record { 0 = steps_in f } }

-- the letters, from the head's end for the step count
abbrev pub letters_in : List ℕ → List ℕ
letters_in f = take (steps_in f) (drop head_length f)

-- 14, the mark is missing or other; 17, fewer than 10 bytes; 1; 18; 2; 15, the step count is above mn − 1; 17, letters cut short
abbrev pub check_head : List ℕ → Check
check_head f =
    expect (has_mark f) Mark
    (expect (has_head f) CutShort
    (after (check_entry (panel_in f) (entry_in f))
    (expect (ltb (steps_in f) (area (panel_in f))) StepCount
    (expect (leb (head_length + steps_in f) (length f)) CutShort (Ok tt)))))
