-- The squares in x and in y add up to 1 exactly if the distances do.
use Prim.Native.Nat.{ℕ}
use mathlib.Core.Path.{ap, ◌∙◌}
use lib.Dec.{eqb}
use Rattle.list.proofs.Apart.{step_by_squares}
use Rattle.list.proofs.adjacent.Goals as goal

pub returns : goal.returns
returns c = ap (λ (k : ℕ). eqb k 1) c.squared_distance.ensures ∙ step_by_squares _ _
