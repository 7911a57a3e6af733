-- Document 01, "Program foil": the text that is printed.
use Rattle.std.specs.Prelude.{ℕ, ◌-◌, List, [], ◌∷◌, ◌++◌, length}
use Rattle.grid.specs.declared.Cell.{Cell}
use Rattle.squares.specs.Squares.{squares}
use Rattle.step_letters.specs.Letters.{letters_of}
use Rattle.text.specs.Field.{blank, line_feed, field_of}

-- "class cells steps squares" and a line feed
abbrev pub heading : List ℕ
heading =
    99 ∷ 108 ∷ 97 ∷ 115 ∷ 115 ∷ blank ∷ 99 ∷ 101 ∷ 108 ∷ 108 ∷ 115 ∷ blank ∷ 115 ∷ 116 ∷ 101 ∷ 112 ∷ 115 ∷ blank ∷
    115 ∷ 113 ∷ 117 ∷ 97 ∷ 114 ∷ 101 ∷ 115 ∷ line_feed ∷ []

-- "refused" and a blank
abbrev pub refused_word : List ℕ
refused_word = 114 ∷ 101 ∷ 102 ∷ 117 ∷ 115 ∷ 101 ∷ 100 ∷ blank ∷ []

-- the line `refused N`
abbrev pub refused_text : ℕ → List ℕ
refused_text n = refused_word ++ field_of n line_feed []

-- the line of class, cells, steps and squares; steps are one fewer than cells
abbrev pub counts_text : ℕ → ℕ → ℕ → List ℕ
counts_text class cells squares =
    field_of class blank (field_of cells blank (field_of (cells - 1) blank (field_of squares line_feed [])))

-- the three lines for a track: the heading, its class and counts, its letters
abbrev pub answer_text : ℕ → List Cell → List ℕ
answer_text class track =
    heading ++ (counts_text class (length track) (squares track) ++ (letters_of track ++ line_feed ∷ []))

-- bytes enough for the text of any order
abbrev pub text_room : ℕ
text_room = 16512
