-- Document 02, R-9: without 10 every list gets the answer that it got with it. The checks as they stood are written out here; which refusal they
-- had for more than mn cells does not matter.
use Rattle.std.specs.Prelude.{Result, Ok}
use Rattle.grid.specs.declared.Cells.{Cells}
use Prim.Native.Nat.{ℕ}
use mathlib.Core.Path.{◌≡◌, refl, ap}
use mathlib.Core.Bool.{Bool, true, false}
use mathlib.Core.List.{List}
use lib.Dec.{leb}
use lib.ListN.{length}
use borrow.Author.Tests.{le-leb}
use Rattle.grid.specs.declared.Panel.{Panel}
use Rattle.grid.specs.declared.Cell.{Cell}
use Rattle.grid.specs.declared.Refusal.{Refusal}
use Rattle.grid.specs.declared.Refusal.TheVariants.{CellOff, NotNeighbours, Repeated, WrongEnds}
use Rattle.grid.specs.Check.{Check}
use Rattle.grid.specs.Panel.{area}
use Rattle.grid.specs.Check.{expect, after}
use Rattle.grid.specs.Answer.{cells_answer}
use Rattle.grid.specs.Bytes.{cells_in}
use Rattle.list.specs.List.{all_on, all_steps, none_twice, runs}
use Rattle.list.specs.Check.{check_walk}
use Rattle.pigeonhole.proofs.Long.{tested_few}
use Rattle.judge.specs.Judge.{sizes_check, cells_check, judge_of}

module _ (ten : Refusal) (p : Panel) (s t : Cell) where
  -- between 9 and 11 stood 10, more than mn cells
  abbrev pub cells_check_with_ten : List Cell → Check
  cells_check_with_ten l =
      after (check_walk p l)
      (expect (none_twice l) Repeated
      (expect (leb (length l) (area p)) ten
      (expect (runs s t l) WrongEnds (Ok tt))))

  abbrev pub judge_of_with_ten : List ℕ → ℕ → Result Cells Refusal
  judge_of_with_ten list room =
      cells_answer (after (sizes_check p s t (length list) room) (cells_check_with_ten (cells_in list))) (length (cells_in list))

  -- a test that cannot fail behind the others is no test
  spare : (on steps once short : Bool) (k : Check) → (on ≡ true → once ≡ true → short ≡ true)
      → after (expect on CellOff (expect steps NotNeighbours (Ok tt))) (expect once Repeated (expect short ten k))
      ≡ after (expect on CellOff (expect steps NotNeighbours (Ok tt))) (expect once Repeated k)
  spare true true true short k h = ap (λ (b : Bool). expect b ten k) (h refl refl)
  spare true true false short k h = refl
  spare true false once short k h = refl
  spare false steps once short k h = refl

  pub check_without_ten : (l : List Cell) → cells_check_with_ten l ≡ cells_check p s t l
  check_without_ten l =
      spare (all_on p l) (all_steps l) (none_twice l) (leb (length l) (area p)) _ (λ on once. le-leb (length l) (area p) (tested_few p l on once))

  pub answer_without_ten : (list : List ℕ) (room : ℕ) → judge_of_with_ten list room ≡ judge_of p s t list room
  answer_without_ten list room =
      ap (λ (c : Check). cells_answer (after (sizes_check p s t (length list) room) c) (length (cells_in list))) (check_without_ten (cells_in list))
