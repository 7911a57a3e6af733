-- Document 02, R-8, "Probe sheet": what the call answers and what it leaves in scratch, for every input.
use Rattle.std.specs.Prelude.{ℕ, ◌*◌, ◌%◌, ◌≡◌, Bool, cond, ◌&&◌, List, Result, Ok, Err, leb, eqb, length, replicate}
use Rattle.grid.specs.declared.Panel.{Panel}
use Rattle.grid.specs.declared.Cell.{Cell}
use Rattle.grid.specs.declared.Cells.{Cells}
use Rattle.grid.specs.declared.Refusal.{Refusal}
use Rattle.grid.specs.declared.Refusal.TheVariants.{CellOff, ProbeBytes}
use Rattle.grid.specs.Refusal.{number}
use Rattle.grid.specs.Check.{Check}
use Rattle.grid.specs.Panel.{cell}
use Rattle.grid.specs.Check.{expect, after, answer}
use Rattle.grid.specs.Answer.{refusal_number, given}
use Rattle.grid.specs.Bytes.{cells_in}
use Rattle.list.specs.List.{all_on}
use Rattle.judge.specs.Judge.{judge_check, scratch_after}
use Rattle.probe_walk.specs.Probes.{places, positions, nearest_cells, cells_read}
use Rattle.probe.specs.declared.ProbeSheet.{ProbeSheet}

-- a number of bytes that holds at most 64 probes and nothing else
abbrev pub few_probes : ℕ → Bool
few_probes k = leb k (2 * places) && eqb (k % 2) 0

-- 20, more than 64 probes or an odd number of probe bytes; Judge's refusals; 7, a probe is off the panel
abbrev pub probe_check : Panel → Cell → Cell → List ℕ → List ℕ → ℕ → Check
probe_check p s t list probes room =
    expect (few_probes (length probes)) ProbeBytes
    (after (judge_check p s t list room)
    (expect (all_on p (cells_in probes)) CellOff (Ok tt)))

-- the sheet of probes on a list of cells
abbrev pub sheet_of : List Cell → List Cell → ProbeSheet
sheet_of q l = record { positions = positions q l; nearest = nearest_cells q l; read = record { 0 = cells_read q l } }

-- the answer: the refusal, or the sheet
abbrev pub probe_answer : Check → List Cell → List Cell → Result ProbeSheet Refusal
probe_answer c q l = answer c Err (Ok (sheet_of q l))

-- ---- the numbers of a sheet

-- the number of the refusal, 0 where nothing is refused, and what the sheet has
pub record SheetValues : Type 0 where
  pub refusal : ℕ
  pub positions : List ℕ
  pub nearest : List Cell
  pub read : Cells

-- those of an answer, all 0 where it refuses
abbrev pub sheet_values : Result ProbeSheet Refusal → SheetValues
sheet_values (Err r) = record {
  refusal = number r;
  positions = replicate places 0;
  nearest = replicate places (cell 0 0);
  read = record { 0 = 0 };
}
sheet_values (Ok s) = record { refusal = 0; positions = s.positions; nearest = s.nearest; read = s.read }

-- those behind a check: of probes on a list of cells, all 0 where it refuses
abbrev pub sheet : Check → List Cell → List Cell → SheetValues
sheet c q l = record {
  refusal = refusal_number c;
  positions = answer c (λ r. replicate places 0) (positions q l);
  nearest = answer c (λ r. replicate places (cell 0 0)) (nearest_cells q l);
  read = record { 0 = given c (cells_read q l) };
}

-- and those that the call gives
abbrev pub probe_of : Panel → Cell → Cell → List ℕ → List ℕ → ℕ → SheetValues
probe_of p s t list probes room = sheet (probe_check p s t list probes room) (cells_in probes) (cells_in list)

-- ---- the promise

-- scratch after the call: untouched after 20, else as Judge leaves it
abbrev pub probe_scratch : Panel → Cell → Cell → List ℕ → List ℕ → List ℕ → List ℕ
probe_scratch p s t list probes old = cond (few_probes (length probes)) (scratch_after p s t list old) old

-- Probe's promise: the sheet or the refusal, its numbers, and scratch, which was old and is new
pub record Probes (p : Panel) (s t : Cell) (list probes old new : List ℕ) (r : Result ProbeSheet Refusal) : Type 0 where
  pub answers : r ≡ probe_answer (probe_check p s t list probes (length old)) (cells_in probes) (cells_in list)
  pub values : sheet_values r ≡ probe_of p s t list probes (length old)
  pub scratch : new ≡ probe_scratch p s t list probes old
