-- The bench's C calls: where the bench's check refuses, that refusal, packed; where it passes, what the C call for large panels gives and leaves.
use Rattle.std.specs.Prelude.{Ok, Err}
use Prim.Native.Nat.{ℕ}
use mathlib.Core.Path.{◌≡◌, sym, ap, subst, ◌∙◌}
use mathlib.Core.List.{List}
use lib.ListN.{length}
use Rattle.grid.specs.declared.Panel.{Panel}
use Rattle.grid.specs.declared.Cell.{Cell}
use Rattle.grid.specs.declared.Refusal.{Refusal}
use Rattle.grid.specs.Check.{Check}
use Rattle.grid.specs.Bytes.{cells_in}
use Rattle.grid.specs.Check.{check_order, answer}
use Rattle.grid.specs.Refusal.{number}
use Rattle.grid.specs.Answer.{cells_answer}
use Rattle.grid.proofs.Tests.{answer_good, answer_refused}
use Rattle.list.specs.List.{with_cells}
use Rattle.count.specs.Order.{order_class, order_count}
use Rattle.draw.specs.Track.{drawn_track}
use Rattle.draw.specs.Draw.{draw_check, Leaves}
use Rattle.judge.specs.Judge.{judge_check, scratch_after}
use Rattle.bench.specs.Bench.{check_bench, on_bench}
use Rattle.bench.proofs.Checks.{passed, refused}
use Rattle.host.specs.Host.{packed, packed_behind, PacksBound, PacksDraw, PacksJudge, PacksBenchBound, PacksBenchDraw, PacksBenchJudge}

module _ (p : Panel) (c : Check) (class count : ℕ) {k : ℕ} where
  packs_refused : {r : Refusal} → check_bench p ≡ Err r → k ≡ packed (number r) 0 0 → k ≡ packed_behind (on_bench p c) class count
  packs_refused e f = f ∙ ap (λ (d : Check). packed_behind d class count) (sym (refused p c e))

  packs_passed : check_bench p ≡ Ok tt → k ≡ packed_behind c class count → k ≡ packed_behind (on_bench p c) class count
  packs_passed e f = f ∙ ap (λ (d : Check). packed_behind d class count) (sym (passed p c e))

module _ {p : Panel} {s t : Cell} {k : ℕ} where
  pub bound_refused : {r : Refusal} → check_bench p ≡ Err r → k ≡ packed (number r) 0 0 → PacksBenchBound p s t k
  bound_refused e f = record { packs = packs_refused p (check_order p s t) (order_class p s t) (order_count p s t) e f }

  pub bound_passed : check_bench p ≡ Ok tt → PacksBound p s t k → PacksBenchBound p s t k
  bound_passed e b = record { packs = packs_passed p (check_order p s t) (order_class p s t) (order_count p s t) e b.packs }

  module _ {old new : List ℕ} where
    pub draw_refused : {r : Refusal} → check_bench p ≡ Err r → k ≡ packed (number r) 0 0 → new ≡ old → PacksBenchDraw p s t old new k
    draw_refused e f same =
        let large = draw_check p s t (length old) in
        record {
          packs = packs_refused p large 0 (order_count p s t) e f;
          leaves = subst (λ (d : Check). Leaves p s t old new (cells_answer d (order_count p s t))) (sym (refused p large e)) same;
          cells = same ∙ answer_refused _ _ (refused p large e);
        }

    pub draw_passed : check_bench p ≡ Ok tt → PacksDraw p s t old new k → PacksBenchDraw p s t old new k
    draw_passed e d =
        let large = draw_check p s t (length old) in
        record {
          packs = packs_passed p large 0 (order_count p s t) e d.packs;
          leaves = subst (λ (d : Check). Leaves p s t old new (cells_answer d (order_count p s t))) (sym (passed p large e)) d.leaves;
          cells = d.cells ∙ ap (λ (d : Check). answer d (λ r. old) (with_cells (drawn_track p.width p.height s t) old)) (sym (passed p large e));
        }

  module _ {list old new : List ℕ} where
    pub judge_refused : {r : Refusal} → check_bench p ≡ Err r → k ≡ packed (number r) 0 0 → new ≡ old → PacksBenchJudge p s t list old new k
    judge_refused e f same = record {
      packs = packs_refused p (judge_check p s t list (length old)) 0 (length (cells_in list)) e f;
      scratch = same ∙ answer_refused _ (scratch_after p s t list old) e;
    }

    pub judge_passed : check_bench p ≡ Ok tt → PacksJudge p s t list old new k → PacksBenchJudge p s t list old new k
    judge_passed e j = record {
      packs = packs_passed p (judge_check p s t list (length old)) 0 (length (cells_in list)) e j.packs;
      scratch = answer_good _ (scratch_after p s t list old) e j.scratch;
    }
