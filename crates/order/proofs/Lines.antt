-- Reading one number of the line after another: what the code has read so far, and what is still to come.
use Prim.Native.Nat.{ℕ, zero, suc, ◌+◌, ◌-◌, ◌<◌}
use mathlib.Core.Path.{◌≡◌, ap, ◌∙◌}
use mathlib.Core.List.{List}
use native.Mathlib.Omega.{arith}
use lib.ListN.{drop, get_or, set}
use Rattle.grid.specs.declared.Panel.{Panel}
use Rattle.grid.specs.Panel.{panel, cell}
use Rattle.std.specs.Prelude.{Option, Some, None}
use Rattle.text.specs.declared.Field.{Field}
use Rattle.text.specs.Field.{blank, line_feed, field, parsed, and_then}
use Rattle.text.proofs.Reading.{reads_on}
use Rattle.grid.specs.declared.Order.{Order}
use Rattle.order.specs.Line.{order}

-- the order whose first six numbers stand in v
abbrev pub order_of : List ℕ → ℕ → Option Order
order_of v q = Some (order (panel (get_or v 0 0) (get_or v 1 0) q) (cell (get_or v 2 0) (get_or v 3 0)) (cell (get_or v 4 0) (get_or v 5 0)))

-- the same with a panel that was made of the first two and the last
pub order_made : (v : List ℕ) (q : ℕ) {p : Panel} → p ≡ panel (get_or v 0 0) (get_or v 1 0) q
    → Some (order p (cell (get_or v 2 0) (get_or v 3 0)) (cell (get_or v 4 0) (get_or v 5 0))) ≡ order_of v q
order_made v q e = ap (λ (p : Panel). Some (order p (cell (get_or v 2 0) (get_or v 3 0)) (cell (get_or v 4 0) (get_or v 5 0)))) e

-- what is read where k numbers with a blank behind them are still to come; the six of the line stand in v
abbrev pub line_from : ℕ → List ℕ → List ℕ → Option Order
line_from zero v l = and_then None (field line_feed l) (λ q l. order_of v q)
line_from (suc k) v l = and_then None (field blank l) (λ n l. line_from k (set v (5 - k) n) l)

-- number i of the first six
module _ (input v : List ℕ) (from i : ℕ) (h : i < 6) where
  abbrev more : ℕ → List ℕ → Option Order
  more n l = line_from (5 - i) (set v (5 - (5 - i)) n) l

  one_more : and_then None (field blank (drop from input)) more ≡ line_from (6 - i) v (drop from input)
  one_more =
      let e : suc (5 - i) ≡ 6 - i = omega arith in
      ap (λ (k : ℕ). line_from k v (drop from input)) e

  module _ {r : Option Field} (f : parsed input r ≡ field blank (drop from input)) where
    pub first_on : (g : Field) → r ≡ Some g → line_from (6 - (i + 1)) (set v i g.value) (drop g.next input) ≡ line_from (6 - i) v (drop from input)
    first_on n q =
        let e : 6 - (i + 1) ≡ 5 - i = omega arith in
        let g : i ≡ 5 - (5 - i) = omega arith in
        (λ t. line_from (e t) (set v (g t) n.value) (drop n.next input)) ∙ reads_on None input blank from more f q ∙ one_more
