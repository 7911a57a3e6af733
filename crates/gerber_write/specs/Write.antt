-- Document 02, R-2 and R-6: the writer of a layer: its refusals in order, its answer and the final content of both lent buffers.
use Rattle.std.specs.Prelude.{Result, Ok}
use Rattle.std.specs.Prelude.{ℕ, ◌≤◌, ◌≡◌, true, ◌&&◌, List, ◌++◌, length, take, drop, leb}
use Rattle.grid.specs.declared.Panel.{Panel}
use Rattle.grid.specs.Check.{Check}
use Rattle.grid.specs.declared.Refusal.{Refusal}
use Rattle.grid.specs.declared.Refusal.TheVariants.{ShortBuffer}
use Rattle.grid.specs.Panel.{GoodPanel}
use Rattle.grid.specs.Bytes.{cells_in}
use Rattle.grid.specs.Check.{expect, after, answer}
use Rattle.grid.specs.Answer.{bytes_answer, bytes_values, GivesBytes}
use Rattle.list.specs.List.{all_on}
use Rattle.list.specs.Check.{check_list}
use Rattle.scratch.specs.Scratch.{zeros_for}
use Rattle.text.specs.Put.{Put}
use Rattle.gerber.specs.Layer.{layer_of}

-- the bytes of scratch that hold a number's digits
abbrev pub digit_room : ℕ
digit_room = 10

-- the layer of the cells that a list holds
abbrev pub layer_bytes : Panel → List ℕ → List ℕ
layer_bytes p list = layer_of p (cells_in list)

-- as Write: 1; 18; 6; 7; 8; 15; then 5, the buffer is shorter than the layer or scratch has less than 10 bytes
abbrev pub check_layer : Panel → List ℕ → List ℕ → List ℕ → Check
check_layer p list scratch out =
    after (check_list p list)
    (expect (leb digit_room (length scratch) && leb (length (layer_bytes p list)) (length out)) ShortBuffer (Ok tt))

-- the bytes written
abbrev pub layer_answer : Panel → List ℕ → List ℕ → List ℕ → Result ℕ Refusal
layer_answer p list scratch out = bytes_answer (check_layer p list scratch out) (length (layer_bytes p list))

-- the layer, and the bytes behind it as they were; a refusal changes nothing
abbrev pub layer_buffer : Panel → List ℕ → List ℕ → List ℕ → List ℕ
layer_buffer p list scratch out =
    answer (check_layer p list scratch out) (λ r. out) (layer_bytes p list ++ drop (length (layer_bytes p list)) out)

-- the first 10 bytes 0, and the rest as it was; a refusal changes nothing
abbrev pub layer_scratch : Panel → List ℕ → List ℕ → List ℕ → List ℕ
layer_scratch p list scratch out =
    answer (check_layer p list scratch out) (λ r. scratch) (zeros_for digit_room scratch)

-- what the writer promises of its answer r, of scratch, s before the call and t after it, and of the buffer, old and new
pub record WritesLayer (p : Panel) (list s t old new : List ℕ) (r : Result ℕ Refusal) : Type 0 where
  pub gives : GivesBytes (check_layer p list s old) (length (layer_bytes p list)) r
  pub buffer : new ≡ layer_buffer p list s old
  pub scratch : t ≡ layer_scratch p list s old

-- what the writer makes: the bytes that it says it has written
abbrev pub layer_made : Panel → List ℕ → List ℕ → List ℕ → List ℕ
layer_made p list scratch out = take (bytes_values (layer_answer p list scratch out)).bytes (layer_buffer p list scratch out)

-- ---- for the parts of the writer

-- a list that a layer is made of: one cell of the panel or more, and at most 16,384
pub record Plottable (p : Panel) (list : List ℕ) : Type 0 where
  pub panel : GoodPanel p
  pub on : all_on p (cells_in list) ≡ true
  pub some : 2 ≤ length list
  pub few : length list ≤ 32768

-- a text was put at a place of a buffer by way of scratch, of which only the bytes for digits may have changed
pub record PutThrough (s t out : List ℕ) (at : ℕ) (text after : List ℕ) (next : ℕ) : Type 0 where
  pub put : Put out at text after next
  pub rest : drop digit_room t ≡ drop digit_room s
