-- Exit's promise, from the answer alone; and the answer, from what is found.
use Rattle.std.specs.Prelude.{Result, Ok, Err, Option, Some, None}
use mathlib.Core.Path.{◌≡◌, refl, sym, ◌∙◌}
use Rattle.grid.specs.declared.Panel.{Panel}
use Rattle.grid.specs.declared.Cell.{Cell}
use Rattle.grid.specs.declared.Cells.{Cells}
use Rattle.grid.specs.declared.Refusal.{Refusal}
use Rattle.grid.specs.declared.Refusal.TheVariants.{NoExit}
use Rattle.grid.specs.Check.{expect, after, check_entry, answer}
use Rattle.grid.proofs.Answers.{read_off}
use Rattle.exit.specs.Exit.{first_fit, is_found, cell_found, exit_check, exit_of, exit_values, Exits}

pub exits : (p : Panel) (s : Cell) (w : Cells) {r : Result Cell Refusal} → r ≡ exit_of p s w → Exits p s w r
exits p s w e = record {
  answers = e;
  number = read_off (λ (a : Result Cell Refusal). (exit_values a).refusal) (exit_check p s w) _ _ e;
  cell = read_off (λ (a : Result Cell Refusal). (exit_values a).cell) (exit_check p s w) _ _ e;
}

-- a cell found is given, else 12
abbrev pub answer_of : Option Cell → Result Cell Refusal
answer_of (Some c) = Ok c
answer_of None = Err NoExit

pub searched : (p : Panel) (s : Cell) (w : Cells) (r : Option Cell) → check_entry p s ≡ (Ok tt) → r ≡ first_fit p s w → answer_of r ≡ exit_of p s w
searched p s w r g e = shown r ∙ (λ i. answer (after (sym g i) (expect (is_found (e i)) NoExit (Ok tt))) Err (Ok (cell_found (e i))))
  where
    shown : (r : Option Cell) → answer_of r ≡ answer (expect (is_found r) NoExit (Ok tt)) Err (Ok (cell_found r))
    shown (Some c) = refl
    shown None = refl
