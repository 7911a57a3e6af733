-- The promise of class and count behind a check, from the answer alone.
use Rattle.std.specs.Prelude.{Result}
use mathlib.Core.Path.{◌≡◌}
use Rattle.grid.specs.declared.Panel.{Panel}
use Rattle.grid.specs.declared.Cell.{Cell}
use Rattle.grid.specs.declared.Refusal.{Refusal}
use Rattle.grid.specs.Check.{Check}
use Rattle.grid.proofs.Answers.{read_off}
use Rattle.count.specs.declared.ClassCount.{ClassCount}
use Rattle.bound.specs.Bound.{bound_answer, bound_values, GivesBound}

pub gives_bound : (c : Check) (p : Panel) (s t : Cell) {r : Result ClassCount Refusal} → r ≡ bound_answer c p s t → GivesBound c p s t r
gives_bound c p s t e = record {
  answers = e;
  number = read_off (λ (a : Result ClassCount Refusal). (bound_values a).refusal) c _ _ e;
  class = read_off (λ (a : Result ClassCount Refusal). (bound_values a).class) c _ _ e;
  count = read_off (λ (a : Result ClassCount Refusal). (bound_values a).count.0) c _ _ e;
}
