-- The promise, test by test: where 20 is met, where Judge refuses, where a probe is off the panel, and where all is good; and what Judge's
-- answer says then of the list and of scratch.
use Rattle.std.specs.Prelude.{Result, Ok, Err}
use Prim.Native.Nat.{ℕ, ◌*◌, ◌≤◌}
use native.Mathlib.Omega.{arith}
use mathlib.Core.Path.{◌≡◌, refl, sym, ap, ◌∙◌}
use mathlib.Core.Bool.{true, false}
use mathlib.Core.List.{List, [], ◌∷◌}
use lib.Dec.{leb}
use lib.ListN.{length}
use borrow.Author.Tests.{leb-true}
use Rattle.grid.specs.declared.Panel.{Panel}
use Rattle.grid.specs.declared.Cell.{Cell}
use Rattle.grid.specs.declared.Cells.{Cells}
use Rattle.grid.specs.declared.Refusal.{Refusal}
use Rattle.grid.specs.declared.Refusal.TheVariants.{CellOff, WrongEnds, ProbeBytes}
use Rattle.grid.specs.Check.{Check, expect}
use Rattle.grid.specs.Panel.{panel, cell, dist, apart}
use Rattle.grid.specs.Bytes.{cells_in}
use Rattle.grid.proofs.Answers.{check_behind, check_behind_lem}
use Rattle.grid.proofs.Facts.{and_parts, is_sides}
use Rattle.grid.proofs.Passed.{after_passed, after_rest}
use Rattle.grid.proofs.Tests.{cond_yes, expect_yes, after_good, after_refused}
use Rattle.list.specs.List.{all_on}
use Rattle.list.proofs.Cells.{length_cells}
use Rattle.list.proofs.Whole.{whole}
use Rattle.judge.specs.Judge.{sizes_check, cells_check, judge_check, Judges}
use Rattle.judge.proofs.Checks.{Sized, sized, passed, count_small}
use Rattle.probe_walk.specs.Probes.{places}
use Rattle.probe_walk.specs.Search.{Searched}
use Rattle.probe.specs.declared.ProbeSheet.{ProbeSheet}
use Rattle.probe.specs.Probe.{few_probes, probe_check, sheet_of, probe_answer, sheet_values, sheet, probe_scratch, Probes}

-- ---- computed

abbrev pub checked : List ℕ → List ℕ → Check
checked list probes = probe_check (panel 3 1 4000) (cell 1 1) (cell 2 1) list probes 3

-- so many bytes: none, 64 probes; 65, an odd number
pub bytes_shown : (few_probes 0 ≡ true) × (few_probes 128 ≡ true) × (few_probes 130 ≡ false) × (few_probes 127 ≡ false)
bytes_shown = (refl, refl, refl, refl)

-- from (1, 1) to (2, 1) on a panel of 3 by 1: half a probe and a list that Judge refuses; such a list and a probe off the panel; that probe alone
pub order_shown : (checked (1 ∷ 1 ∷ []) (4 ∷ []) ≡ Err ProbeBytes) × (checked (1 ∷ 1 ∷ []) (4 ∷ 1 ∷ []) ≡ Err WrongEnds)
    × (checked (1 ∷ 1 ∷ 2 ∷ 1 ∷ []) (4 ∷ 1 ∷ []) ≡ Err CellOff) × (checked (1 ∷ 1 ∷ 2 ∷ 1 ∷ []) (3 ∷ 1 ∷ []) ≡ (Ok tt))
unfolding apart dist
order_shown = (refl, refl, refl, refl)

-- ---- what Judge's answer says

module _ (p : Panel) (s t : Cell) (list old : List ℕ) {new : List ℕ} {j : Result Cells Refusal} (g : Judges p s t list old new j) where
  is_check : check_behind j ≡ judge_check p s t list (length old)
  is_check = check_behind_lem _ _ g.gives.answers

  -- where it accepts
  module _ {k : Cells} (f : j ≡ Ok k) where
    good : judge_check p s t list (length old) ≡ Ok tt
    good = sym is_check ∙ ap check_behind f

    sizes_good : sizes_check p s t (length list) (length old) ≡ Ok tt
    sizes_good = after_passed (sizes_check p s t (length list) (length old)) _ good

    cells_good : cells_check p s t (cells_in list) ≡ Ok tt
    cells_good = after_rest (sizes_check p s t (length list) (length old)) _ good

    sizes : Sized p s t (length list) (length old)
    sizes = sized p s t (length list) (length old) sizes_good

    pub some : 2 ≤ length list
    some = (whole (length list) sizes.whole).0

    pub searched : (probes : List ℕ) → few_probes (length probes) ≡ true → all_on p (cells_in probes) ≡ true → Searched p list probes
    searched probes m o =
        let tests = passed p s t (cells_in list) cells_good in
        let (most, even) = and_parts (leb (length probes) (2 * places)) _ m in
        let few : length (cells_in probes) ≤ places = omega (arith, leb-true _ _ most, length_cells probes) in
        record {
          probed = record { good = is_sides sizes.ordered.panel.sides; on = o; few = few };
          inside = tests.on_panel_lem;
          once = tests.once;
          short = omega (arith, count_small p s t list (length old) good, length_cells list, (whole (length list) sizes.whole).1);
        }

-- ---- the promise

-- the numbers of an answer are those behind its check
values_lem : (z : Check) (q l : List Cell) → sheet_values (probe_answer z q l) ≡ sheet z q l
values_lem (Ok u) q l = refl
values_lem (Err r) q l = refl

module _ (p : Panel) (s t : Cell) (list probes old : List ℕ) where
  abbrev q : List Cell
  q = cells_in probes

  abbrev l : List Cell
  l = cells_in list

  -- the answer behind a check that is the call's
  told : {new : List ℕ} → new ≡ probe_scratch p s t list probes old → {a : Result ProbeSheet Refusal} (z : Check) → a ≡ probe_answer z q l
      → z ≡ probe_check p s t list probes (length old) → Probes p s t list probes old new a
  told h z e f =
      let answers = e ∙ ap (λ (z : Check). probe_answer z q l) f in
      record {
        answers = answers;
        values = ap sheet_values answers ∙ values_lem (probe_check p s t list probes (length old)) q l;
        scratch = h;
      }

  module _ (m : few_probes (length probes) ≡ true) {new : List ℕ} {j : Result Cells Refusal} (g : Judges p s t list old new j) where
    left : new ≡ probe_scratch p s t list probes old
    left = cond_yes _ old m g.scratch

    pub judge_refused : {r : Refusal} → j ≡ Err r → {a : Result ProbeSheet Refusal} → a ≡ Err r → Probes p s t list probes old new a
    judge_refused {r} f e = told left (Err r) e (expect_yes _ _ m (after_refused _ (sym (is_check p s t list old g) ∙ ap check_behind f)))

    module _ {k : Cells} (f : j ≡ Ok k) where
      pub probe_refused : {r : Refusal} → expect (all_on p q) CellOff (Ok tt) ≡ Err r → {a : Result ProbeSheet Refusal} → a ≡ Err r
          → Probes p s t list probes old new a
      probe_refused {r} n e = told left (Err r) e (expect_yes _ _ m (after_good _ (good p s t list old g f) (sym n)))

      pub all_good : all_on p q ≡ true → {last : List ℕ} → last ≡ new → {a : ProbeSheet} → a ≡ sheet_of q l → Probes p s t list probes old last (Ok a)
      all_good o h e = told (h ∙ left) (Ok tt) (ap Ok e) (expect_yes _ _ m (after_good _ (good p s t list old g f) (expect_yes _ _ o refl)))
