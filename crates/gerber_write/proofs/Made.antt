-- A list that is not refused is plottable, and its layer put into the buffer, with the digits' bytes cleared, is what the writer promises.
use Rattle.std.specs.Prelude.{Ok}
use Prim.Native.Nat.{ℕ, ◌≤◌}
use mathlib.Core.Path.{◌≡◌, refl, sym, ap, ◌∙◌}
use mathlib.Core.List.{List, ◌++◌}
use native.Mathlib.Omega.{arith}
use native.Mathlib.Nat.{zero-add}
use lib.ListN.{length, drop, replicate}
use borrow.Author.Tests.{le-leb}
use Rattle.grid.specs.declared.Panel.{Panel}
use Rattle.grid.proofs.Facts.{good, area_small, and_both}
use Rattle.grid.proofs.Answers.{gives_bytes}
use Rattle.grid.proofs.Tests.{expect_yes, after_good, answer_good}
use Rattle.list.specs.Check.{check_list}
use Rattle.list.proofs.Cells.{length_cells}
use Rattle.list.proofs.Checks.{list_good, list_whole}
use Rattle.list.proofs.Whole.{whole}
use Rattle.scratch.specs.Scratch.{zeros_for}
use Rattle.text.specs.Put.{put}
use Rattle.gerber_write.specs.Write.{digit_room, layer_bytes, WritesLayer, Plottable, PutThrough}

pub plottable : (p : Panel) (list : List ℕ) → check_list p list ≡ Ok tt → Plottable p list
plottable p list e =
    let g = list_good p list e in
    let q = good p g.panel in
    let even = (whole (length list) (list_whole p list e)).1 in
    record {
      panel = q;
      on = g.on;
      some = omega (arith, g.some, length_cells list);
      few = omega (arith, g.few, area_small q.sides, length_cells list, even);
    }

-- ---- the promise

module _ {p : Panel} {list s out : List ℕ} where
  pub made : {m t new : List ℕ} {k next : ℕ} → check_list p list ≡ Ok tt → digit_room ≤ length s → length (layer_bytes p list) ≤ length out
      → k ≡ length (layer_bytes p list) → PutThrough s m out 0 (layer_bytes p list) new next → t ≡ zeros_for digit_room m
      → WritesLayer p list s t out new (Ok k)
  unfolding put
  made e room h n f z =
      let fits = sym (after_good _ e (expect_yes _ _ (and_both (le-leb _ _ room) (le-leb _ _ h)) refl)) in
      let layer = layer_bytes p list in
      record {
        gives = gives_bytes _ _ (answer_good _ _ fits (ap Ok n));
        buffer = answer_good _ _ fits (f.put.bytes ∙ ap (λ (j : ℕ). layer ++ drop j out) (zero-add (length layer)));
        scratch = answer_good _ _ fits (z ∙ ap (λ (l : List ℕ). replicate digit_room 0 ++ l) f.rest);
      }
