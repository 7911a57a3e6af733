-- Document 01, "Program foil": what a line comes to, the track that is drawn for it, and what is printed for every input. The counts and the
-- letters are those of one track, and of that track only properties are promised: it is a longest one, and leaves uncovered what R-10 says.
use Rattle.grid.specs.declared.Refusal.{Refusal}
use Rattle.std.specs.Prelude.{Result, Ok, Err}
use Rattle.count.specs.declared.ClassCount.{ClassCount}
use Rattle.std.specs.Prelude.{ℕ, ◌≡◌, Option, Some, None, List, ◌++◌, length, drop}
use Rattle.grid.specs.declared.Panel.{Panel}
use Rattle.grid.specs.declared.Cell.{Cell}
use Rattle.grid.specs.declared.Refusal.TheVariants.{UnknownByte}
use Rattle.grid.specs.Refusal.{number}
use Rattle.grid.specs.Bytes.{front}
use Rattle.count.specs.Longest.{Longest}
use Rattle.cold.specs.Cold.{StaysCold}
use Rattle.bound.specs.Bound.{bound_of}
use Rattle.printout.specs.Text.{refused_text, answer_text}
use Rattle.grid.specs.declared.Order.{Order}
use Rattle.order.specs.declared.Drawing.{Drawing}
use Rattle.order.specs.Line.{line_in}

-- ---- what a line comes to

-- what Bound answers, with the panel
abbrev pub bound_drawing : Panel → Result ClassCount Refusal → Result Drawing Refusal
bound_drawing p (Err r) = Err r
bound_drawing p (Ok f) = Ok (record { panel = p; found = f })

-- refusal 16 for another form
abbrev pub drawing_of : Option Order → Result Drawing Refusal
drawing_of None = Err UnknownByte
drawing_of (Some o) = bound_drawing o.panel (bound_of o.panel o.entry o.exit)

-- ---- the track that is drawn

-- the track chosen is a longest one with Bound's count of cells and leaves what R-10 says, where the line is an order that is not refused; else
-- nothing is asked of it
abbrev pub Chosen : Result ClassCount Refusal → Panel → Cell → Cell → List Cell → Type 0
Chosen (Err r) p s t l = Unit {0}
Chosen (Ok f) p s t l = Longest p s t f.count.0 l × StaysCold p s t l

abbrev pub ChosenFor : Option Order → List Cell → Type 0
ChosenFor None l = Unit {0}
ChosenFor (Some o) l = Chosen (bound_of o.panel o.entry o.exit) o.panel o.entry o.exit l

-- the cells of the track that is drawn
abbrev pub drawn_cells : Result Drawing Refusal → ℕ
drawn_cells (Err r) = 0
drawn_cells (Ok d) = d.found.count.0

-- the answer is what the line comes to, and the cells at the front of the buffer are the track chosen
pub record DrawsLine (line : Option Order) (r : Result Drawing Refusal) (buffer : List ℕ) : Type 0 where
  pub answers : r ≡ drawing_of line
  pub chosen : ChosenFor line (front (drawn_cells r) buffer)

-- ---- what is printed

-- the text for what a line comes to, where the track is the one chosen
abbrev pub drawing_text : Result Drawing Refusal → List Cell → List ℕ
drawing_text (Err r) track = refused_text (number r)
drawing_text (Ok d) track = answer_text d.found.class track

-- for some list of cells that is chosen so, its text is the first k bytes of the buffer, and the bytes behind stay
pub record Printed (Choice : List Cell → Type 0) (text : List Cell → List ℕ) (old new : List ℕ) (k : ℕ) : Type 0 where
  pub track : List Cell
  pub chosen : Choice track
  pub bytes : new ≡ text track ++ drop k old
  pub size : k ≡ length (text track)

-- the promise for every input
abbrev pub Answers : List ℕ → List ℕ → List ℕ → ℕ → Type 0
Answers input old new k = Printed (ChosenFor (line_in input)) (drawing_text (drawing_of (line_in input))) old new k
