-- Within its range the pitch does not change what Bound answers.
use Rattle.std.specs.Prelude.{Ok, Err}
use Prim.Native.Nat.{ℕ}
use mathlib.Core.Path.{◌≡◌}
use mathlib.Core.Bool.{true}
use Rattle.grid.specs.declared.Cell.{Cell}
use Rattle.grid.specs.Panel.{panel, good_pitch}
use Rattle.grid.specs.Check.{answer}
use Rattle.grid.proofs.Sides.{order_same}
use Rattle.count.proofs.Sides.{order_by_sides}
use Rattle.bound.specs.Bound.{bound_of}

pub bound_same : (m n a b : ℕ) → good_pitch (panel m n a) ≡ true → good_pitch (panel m n b) ≡ true → (s t : Cell)
    → bound_of (panel m n a) s t ≡ bound_of (panel m n b) s t
bound_same m n a b u v s t = λ i. answer (order_same m n a b u v s t i) Err (Ok (order_by_sides m n a b s t i))
