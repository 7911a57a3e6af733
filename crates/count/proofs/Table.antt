-- Document 01, "Table of orders": all twelve rows, for every pitch, by one test that computes over the list of them.
use Prim.Native.Nat.{ℕ}
use mathlib.Core.Path.{◌≡◌, refl}
use mathlib.Core.Bool.{Bool, true, ◌&&◌}
use mathlib.Core.List.{List, [], ◌∷◌}
use lib.Dec.{eqb}
use borrow.Author.Tests.{eqb-true}
use Rattle.grid.specs.declared.Panel.{Panel}
use Rattle.grid.specs.declared.Cell.{Cell}
use Rattle.grid.specs.Panel.{panel, cell}
use Rattle.grid.proofs.Facts.{and_left, and_right}
use Rattle.count.specs.Count.{f1, f2, f3, c2, c0, decided, named, class_count}
use Rattle.count.specs.Order.{order_class_count, order_class, order_count}

-- a row: an order, and the class and the count that it must have
pub record Row : Type 0 where
  pub its_panel : Panel
  pub entry : Cell
  pub exit : Cell
  pub its_class : ℕ
  pub its_count : ℕ

-- pitch q, m by n, (sx, sy), (tx, ty): class, count
abbrev row : (q m n sx sy tx ty cl co : ℕ) → Row
row q m n sx sy tx ty cl co =
    record {
      its_panel = panel m n q;
      entry = cell sx sy;
      exit = cell tx ty;
      its_class = cl;
      its_count = co;
    }

abbrev pub table : ℕ → List Row
table q =
    row q 5 1 5 1 1 1 3 5
    ∷ row q 5 1 2 1 4 1 1 3
    ∷ row q 6 2 2 1 2 2 2 10
    ∷ row q 6 2 3 1 4 2 2 7
    ∷ row q 6 2 3 1 4 1 3 12
    ∷ row q 4 3 2 1 3 1 3 12
    ∷ row q 4 3 2 2 3 2 3 12
    ∷ row q 4 3 1 2 2 2 5 10
    ∷ row q 3 4 2 1 2 4 5 10
    ∷ row q 3 3 2 2 1 2 4 8
    ∷ row q 3 3 1 2 3 2 5 7
    ∷ row q 128 128 1 1 128 128 4 16383
    ∷ []

-- every row has its class and its count
abbrev pub Holds : List Row → Type 0
Holds [] = Unit {0}
Holds (r ∷ l) =
    (order_class r.its_panel r.entry r.exit ≡ r.its_class)
    × (order_count r.its_panel r.entry r.exit ≡ r.its_count)
    × Holds l

-- the same as a test
abbrev holds : List Row → Bool
holds [] = true
holds (r ∷ l) =
    eqb (order_class r.its_panel r.entry r.exit) r.its_class
    && (eqb (order_count r.its_panel r.entry r.exit) r.its_count && holds l)

tested : (l : List Row) → holds l ≡ true → Holds l
tested [] e = tt
tested (r ∷ l) e =
    let a = eqb (order_class r.its_panel r.entry r.exit) r.its_class in
    let b = eqb (order_count r.its_panel r.entry r.exit) r.its_count in
    let later = and_right a (b && holds l) e in
    (eqb-true _ _ (and_left a (b && holds l) e), eqb-true _ _ (and_left b (holds l) later), tested l (and_right b (holds l) later))

pub table_holds : (q : ℕ) → Holds (table q)
unfolding f1 f2 f3 c2 c0 decided named class_count order_class_count
table_holds q = tested (table q) refl
