-- What a class says of the count and of the terminals' colours, on a panel with both sides 3 or more: the class is 3 or more, the count is mn but
-- for class − 3 cells, and class 5 on a panel with an odd number of cells has black terminals.
use Prim.Native.Nat.{ℕ, ◌-◌, ◌%◌, ◌≤◌}
use mathlib.Core.Path.{◌≡◌, refl, sym, ap, ◌∙◌}
use mathlib.Core.Bool.{true}
use mathlib.Core.Logic.{⊎_elim}
use native.Mathlib.Omega.{arith}
use Rattle.grid.specs.declared.Panel.{Panel}
use Rattle.grid.specs.declared.Cell.{Cell}
use Rattle.grid.specs.Panel.{black}
use Rattle.grid.proofs.Moves.{black_turned}
use Rattle.grid.proofs.Tests.{both_branches}
use Rattle.count.specs.declared.ClassCount.{ClassCount}
use Rattle.count.specs.Count.{area, c2, c0, decided, class_count}
use Rattle.count.proofs.Lines.{over_lines}
use Rattle.count.proofs.F3.{even_area, c2_cases}
use Rattle.count.proofs.Laws.{area_turned, not_f1, not_f2}

-- C2 on a panel with an odd number of cells: F3's number is even, so the terminals are black
c2_black : (p : Panel) (s t : Cell) → c2 p s t ≡ true → area p % 2 ≡ 1 → (black s ≡ true) × (black t ≡ true)
c2_black p s t e o = ⊎_elim (λ h. (h.1, h.2)) (λ f. absurd (omega (arith, o, even_area f))) (c2_cases p s t e)

-- what the class of such a panel says
pub record Told (p : Panel) (s t : Cell) (f : ClassCount) : Type 0 where
  pub from_three : 3 ≤ f.class
  pub counted : f.count.0 ≡ area p - (f.class - 3)
  pub five_black : f.class ≡ 5 → area p % 2 ≡ 1 → (black s ≡ true) × (black t ≡ true)

lines_told : (p : Panel) (s t : Cell) → 3 ≤ p.height → Told p s t (decided p s t)
unfolding decided
lines_told p s t h =
    rw (not_f1 p s t (omega arith), not_f2 p s t (omega arith))
    (both_branches (Told p s t) (c2 p s t) _ _
    (λ e. record { from_three = omega arith; counted = refl; five_black = λ _. c2_black p s t e })
    (λ _. both_branches (Told p s t) (c0 p s t) _ _
    (λ _. record { from_three = omega arith; counted = omega arith; five_black = λ e. absurd (omega arith) })
    (λ _. record { from_three = omega arith; counted = refl; five_black = λ e. absurd (omega arith) })))

pub told : (p : Panel) (s t : Cell) → 3 ≤ p.width → 3 ≤ p.height → Told p s t (class_count p s t)
told =
    over_lines (λ p s t f. 3 ≤ p.width → 3 ≤ p.height → Told p s t f)
    (λ p s t _ _ w h. lines_told p s t h)
    (λ p s t f k w h. let k = k w h in record {
      from_three = k.from_three;
      counted = k.counted;
      five_black = λ e o. let (a, b) = k.five_black e o in (b, a);
    })
    (λ p s t f k w h. let k = k h w in record {
      from_three = k.from_three;
      counted = k.counted ∙ ap (λ (a : ℕ). a - (f.class - 3)) (area_turned p);
      five_black = λ e o.
          let (a, b) = k.five_black e (ap (λ (a : ℕ). a % 2) (area_turned p) ∙ o) in
          (sym (black_turned s) ∙ a, sym (black_turned t) ∙ b);
    })
