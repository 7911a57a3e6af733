-- R-10: every track of the count's cells between two different cells leaves what its class says. The panel has mn / 2 black cells, rounded down,
-- and the track, along which colours alternate, as many as its length and its ends say; class by class the difference is what document 02 promises.
use Prim.Native.Nat.{ℕ, ◌+◌, ◌-◌, ◌*◌, ◌/◌, ◌≤◌}
use mathlib.Core.Path.{◌≡◌, sym, ap, subst, ◌∙◌}
use mathlib.Core.Logic.{◌≢◌}
use mathlib.Core.List.{List}
use native.Mathlib.Omega.{arith}
use native.Mathlib.Nat.{mul-le-mul}
use lib.ListN.{length, drop_of_length-le}
use Rattle.grid.specs.declared.Panel.{Panel}
use Rattle.grid.specs.declared.Cell.{Cell}
use Rattle.grid.specs.Panel.{panel, area}
use Rattle.grid.specs.Track.{Track}
use Rattle.count.specs.declared.ClassCount.{ClassCount}
use Rattle.count.specs.Order.{order_class_count, order_class, order_count}
use Rattle.count.specs.Longest.{weight, if_black, if_white}
use Rattle.count.proofs.Colour.{bit, black_bit, black_white, walk_black, list_colours, panel_black, panel_colours}
use Rattle.count.proofs.Classes.{Told, told}
use Rattle.count.proofs.Sides.{order_by_sides}
use Rattle.count.proofs.Terminals.{differing, order_class_small, spot_class}
use Rattle.cold.specs.Cold.{uncovered, ColdByClass, StaysCold}
use Rattle.cold.proofs.Uncovered.{left_over}

-- what the class says, of different terminals' order
order_told : (p : Panel) (s t : Cell) → 3 ≤ p.width → 3 ≤ p.height → s ≢ t → Told p s t (order_class_count p s t)
order_told p s t wide high d = subst (Told p s t) (sym (differing p d)) (told p s t wide high)

module _ (p : Panel) (s t : Cell) (wide : 3 ≤ p.width) (high : 3 ≤ p.height) (d : s ≢ t)
    {l : List Cell} (r : Track p s t l) (size : length l ≡ order_count p s t) where
  abbrev cold : List Cell
  cold = uncovered p l

  abbrev whites : ℕ
  whites = weight if_white cold

  abbrev blacks : ℕ
  blacks = weight if_black cold

  class_told : Told p s t (order_class_count p s t)
  class_told = order_told p s t wide high d

  -- how many are left, and how many of them are black, by the count and the ends
  balance : (whites + blacks + order_count p s t ≡ area p)
      × (2 * blacks + order_count p s t + if_black s + if_black t ≡ area p / 2 * 2 + 1)
      × (if_black s + if_white s ≡ 1)
      × (if_black t + if_white t ≡ 1)
      × (9 ≤ area p)
      × (order_count p s t ≡ area p - (order_class p s t - 3))
  balance =
      let black = left_over if_black p r.once r.within in
      let white = left_over if_white p r.once r.within in (
        omega (arith, white, black, panel_colours p, list_colours l, size),
        omega (arith, black, panel_black p, walk_black r.walk, size),
        black_white s,
        black_white t,
        mul-le-mul wide high,
        class_told.counted,
      )

  by_class : ColdByClass (order_class p s t) (area p) s t cold
  by_class = record {
    four_even = omega (arith, balance);
    four_odd = omega (arith, balance);
    five_odd = λ c e. let (a, b) = class_told.five_black c e in omega (arith, balance, black_bit s ∙ ap bit a, black_bit t ∙ ap bit b);
    five_even = omega (arith, balance);
    three = λ c. drop_of_length-le cold {i = 0} (omega (arith, balance, list_colours cold));
  }

-- the theorem
pub stays_cold : (p : Panel) (s t : Cell) {l : List Cell} → Track p s t l → length l ≡ order_count p s t → StaysCold p s t l
stays_cold p s t r size wide high d = by_class p s t wide high d r size

-- no order of such a panel is without its line: the class of different terminals is 3, 4 or 5
pub line_for_each : (p : Panel) (s t : Cell) → 3 ≤ p.width → 3 ≤ p.height → s ≢ t → (3 ≤ order_class p s t) × (order_class p s t ≤ 5)
line_for_each p s t wide high d =
    let no_spot : order_class p s t ≢ 6 = λ e. d ((spot_class p s t).0 e) in
    ((order_told p s t wide high d).from_three, omega (arith, order_class_small p s t))

-- the pitch changes nothing of it
pub cold_same : (m n a b : ℕ) (s t : Cell) (l : List Cell) → StaysCold (panel m n a) s t l → StaysCold (panel m n b) s t l
cold_same m n a b s t l h wide high d =
    subst (λ (f : ClassCount). ColdByClass f.class (m * n) s t (uncovered (panel m n a) l)) (order_by_sides m n a b s t) (h wide high d)
