-- A head with the letters behind it is a record, and that is what Write promises.
use Rattle.std.specs.Prelude.{Result, Ok, Err}
use Prim.Native.Nat.{ℕ, ◌+◌, ◌/◌, ◌≤◌}
use native.Mathlib.Omega.{arith}
use mathlib.Core.Bool.{true}
use mathlib.Core.Path.{◌≡◌, sym, ap, ◌∙◌, subst⁻¹}
use mathlib.Core.List.{List, ◌∷◌, ◌++◌}
use lib.ListN.{length, drop}
use lib.Seq.{drop-append-add, drop-drop}
use Rattle.grid.specs.declared.Cell.{Cell}
use Rattle.grid.specs.declared.Panel.{Panel}
use Rattle.grid.specs.declared.Refusal.{Refusal}
use Rattle.grid.specs.Bytes.{cells_in}
use Rattle.grid.specs.Panel.{on_panel}
use Rattle.grid.proofs.Answers.{gives_bytes}
use Rattle.grid.proofs.Facts.{good as is-good-panel, area_small, and_parts}
use Rattle.grid.proofs.Tests.{answer_good, answer_refused}
use Rattle.list.specs.List.{all_on, cell_at}
use Rattle.list.proofs.Cells.{length_cells, cells_next}
use Rattle.list.proofs.Checks.{GoodList}
use Rattle.step_letters.proofs.Lists.{steps_and_one}
use Rattle.step_letters.specs.Letters.{letters_from, steps_of, with_letters}
use Rattle.record_head.specs.Head.{head_of, head_length}
use Rattle.record.specs.Write.{record_of, record_length, check_write, Writes}

module _ (p : Panel) (s : Cell) (k : ℕ) (out : List ℕ) where
  -- the buffer behind the head stays at first
  abbrev headed : List ℕ
  headed = head_of p s k ++ drop head_length out

  first_made : (l : List Cell) → k ≡ length l → with_letters head_length (s ∷ l) headed ≡ record_of p (s ∷ l) ++ drop (record_length (s ∷ l)) out
  first_made l e =
      let behind = drop-append-add (head_of p s k) (drop head_length out) (length l) ∙ drop-drop (length l) head_length out in
      ap (λ (d : List ℕ). head_of p s k ++ (letters_from s l ++ d)) behind
      ∙ ap (λ (j : ℕ). head_of p s j ++ (letters_from s l ++ drop (record_length (s ∷ l)) out)) e

  pub record_made_lem : (l r : List Cell) → l ≡ s ∷ r → k ≡ steps_of l → with_letters head_length l headed ≡ record_of p l ++ drop (record_length l) out
  record_made_lem l r e =
      subst⁻¹ (λ (m : List Cell). k ≡ steps_of m → with_letters head_length m headed ≡ record_of p m ++ drop (record_length m) out) e (first_made r)

-- a good list: how long it is, its steps, its first cell and the others, and that the first cell is on the panel
pub few : (p : Panel) (l : List Cell) → GoodList p l → length l ≤ 16384
few p l g = omega (arith, g.few, area_small (is-good-panel p g.panel).sides)

module _ (p : Panel) (list : List ℕ) (g : GoodList p (cells_in list)) where
  pub counted : {k : ℕ} → k + 1 ≡ length list / 2 → k ≡ steps_of (cells_in list)
  counted e = omega (arith, e, g.some, length_cells list, steps_and_one (cells_in list) g.some)

  pub split : cells_in list ≡ cell_at list 0 ∷ cells_in (drop 2 list)
  split = cells_next list 0 (omega (arith, g.some, length_cells list))

  pub first_on : on_panel p (cell_at list 0) ≡ true
  first_on = (and_parts (on_panel p (cell_at list 0)) (all_on p (cells_in (drop 2 list))) (sym (ap (all_on p) split) ∙ g.on)).0

-- the head is written, its entry the first cell, and the letters behind it
module _ {p : Panel} {list out headed new : List ℕ} {s t : Cell} {r : List Cell} {k : ℕ} where
  pub made : check_write p list out ≡ Ok tt → cells_in list ≡ s ∷ r → k ≡ steps_of (cells_in list)
      → t ≡ s → headed ≡ head_of p t k ++ drop head_length out → new ≡ with_letters head_length (cells_in list) headed
      → Writes p list out new (Ok (head_length + k))
  made e split n first h f =
      let behind = h ∙ ap (λ (c : Cell). head_of p c k ++ drop head_length out) first in
      record {
        gives = gives_bytes _ _ (answer_good _ _ e (ap (λ (j : ℕ). Ok (head_length + j)) n));
        buffer = answer_good _ _ e (f ∙ ap (with_letters head_length (cells_in list)) behind ∙ record_made_lem p s k out (cells_in list) r split n);
      }

module _ (p : Panel) (list out : List ℕ) {r : Refusal} {z : Result ℕ Refusal} where
  -- a refusal that leaves the buffer as it was
  pub refused : check_write p list out ≡ Err r → z ≡ Err r → Writes p list out out z
  refused e f = record { gives = gives_bytes _ _ (f ∙ answer_refused Err _ e); buffer = answer_refused (λ r. out) _ e }
