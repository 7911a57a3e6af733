-- What a bench call answers: where the bench's check refuses, that refusal; where it passes, what the call for large panels answers.
use Rattle.std.specs.Prelude.{Ok, Err}
use mathlib.Core.Path.{◌≡◌, refl, sym}
use Rattle.grid.specs.declared.Panel.{Panel}
use Rattle.grid.specs.declared.Refusal.{Refusal}
use Rattle.grid.specs.Check.{Check}
use Rattle.grid.proofs.Tests.{after_good, after_refused}
use Rattle.bench.specs.Bench.{check_bench, on_bench}

module _ (p : Panel) where
  pub passed : (c : Check) → check_bench p ≡ Ok tt → on_bench p c ≡ c
  passed c e = sym (after_good c e refl)

  pub refused : (c : Check) {r : Refusal} → check_bench p ≡ Err r → on_bench p c ≡ Err r
  refused c e = sym (after_refused c e)
