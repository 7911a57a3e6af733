-- An answer packed in one number can be taken apart again: each part is below the unit of the next.
use Prim.Native.Nat.{ℕ, ◌<◌, ◌^◌}
use mathlib.Core.Path.{◌≡◌}
use native.Mathlib.Omega.{arith}
use Rattle.host.specs.Host.{packed, refusal_in, class_in, count_in}

module _ (refusal class count : ℕ) (few : class < 2 ^ 8) (small : count < 2 ^ 24) where
  pub refusal_back : refusal_in (packed refusal class count) ≡ refusal
  refusal_back = omega arith

  pub class_back : class_in (packed refusal class count) ≡ class
  class_back = omega arith

  pub count_back : count_in (packed refusal class count) ≡ count
  count_back = omega arith
