-- Document 02, R-3: after each cell a few kept numbers and the scratch, with no look back into the list, decide Judge's answer for the list up
-- to there. It holds of any step and verdict that keep the contracts of `take_cell`, on a panel with good sides, and of `verdict`: the step
-- is given what is kept, the scratch and the next cell, the verdict what is kept, and neither the list. The list is any whose bytes can be
-- counted in 64 bits.
use Rattle.std.specs.Prelude.{Ok}
use Prim.Native.Nat.{ℕ, ◌+◌, ◌*◌, ◌/◌, ◌<◌, ◌^◌}
use native.Mathlib.Omega.{arith}
use mathlib.Core.Path.{◌≡◌, sym, ap, subst, ◌∙◌}
use mathlib.Core.List.{List, [], ◌∷◌, ◌++◌, append_assoc, append-nil}
use lib.ListN.{length, length-append}
use Rattle.grid.specs.declared.Panel.{Panel}
use Rattle.grid.specs.declared.Cell.{Cell}
use Rattle.grid.specs.Check.{Check}
use Rattle.grid.specs.Answer.{cells_answer}
use Rattle.grid.specs.Bytes.{cells_in}
use Rattle.grid.proofs.Tests.{after_good}
use Rattle.scratch.specs.Scratch.{Clean}
use Rattle.judge_walk.specs.declared.Kept.{Kept}
use Rattle.judge_walk.specs.Walk.{Stands, StandsForSome, Takes, Begins}
use Rattle.judge.specs.Judge.{sizes_check, cells_check, judge_of}
use Rattle.judge.specs.Walk.{Decides}

-- what a walk carries from cell to cell
pub record State : Type 0 where
  pub kept : Kept
  pub marks : List ℕ

module _ (p : Panel) (s t : Cell) (step : State → Cell → State) (verdict : Kept → Check)
    (takes : (z : State) (c : Cell) → StandsForSome p s z.kept z.marks → z.kept.bytes + 2 < 2 ^ 64
    → Takes p s z.kept c z.marks (step z c).kept (step z c).marks)
    (decides : (k : Kept) → Decides t k (verdict k)) where
  -- after the cells of a list
  abbrev pub after : State → List Cell → State
  after z [] = z
  after z (c ∷ l) = after (step z c) l

  stands_after : (z : State) (l m : List Cell) → Stands p s l z.kept z.marks → 2 * (length l + length m) < 2 ^ 64
      → Stands p s (l ++ m) (after z m).kept (after z m).marks
  stands_after z l [] h n = subst (λ (k : List Cell). Stands p s k z.kept z.marks) (sym (append-nil l)) h
  stands_after z l (c ∷ m) h n =
      let t = takes z c (record { list = l; stands = h }) (omega (arith, h.bytes)) in
      let more = stands_after (step z c) (l ++ c ∷ []) m (t.next l h) (omega (arith, length-append l (c ∷ []))) in
      subst (λ (k : List Cell). Stands p s k (after (step z c) m).kept (after (step z c) m).marks) (append_assoc l (c ∷ []) m) more

  module _ {start : State} (begins : Begins start.kept) (clean : Clean p start.marks) (l : List Cell) (small : 2 * length l < 2 ^ 64) where
    stands : Stands p s l (after start l).kept (after start l).marks
    stands = stands_after start [] l (begins.empty p s start.marks clean) (omega arith)

    pub each_cell_lem : verdict (after start l).kept ≡ cells_check p s t l
    each_cell_lem = (decides (after start l).kept).told p s l (after start l).marks stands

    pub judged : (list : List ℕ) (room : ℕ) → cells_in list ≡ l → sizes_check p s t (length list) room ≡ Ok tt
        → judge_of p s t list room ≡ cells_answer (verdict (after start l).kept) ((after start l).kept.bytes / 2)
    judged list room e g =
        let counted : length l ≡ (after start l).kept.bytes / 2 = omega (arith, stands.bytes) in
        ap (λ (k : Check). cells_answer k (length (cells_in list))) (sym (after_good _ g (each_cell_lem ∙ ap (cells_check p s t) (sym e))))
        ∙ ap (cells_answer (verdict (after start l).kept)) (ap length e ∙ counted)
