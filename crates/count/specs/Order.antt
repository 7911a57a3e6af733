-- Document 02, R-6: class and count of an order, whose terminals may be equal (a spot heater; the trivial path of one vertex).
use Rattle.std.specs.Prelude.{ℕ, cond}
use Rattle.grid.specs.declared.Panel.{Panel}
use Rattle.grid.specs.declared.Cell.{Cell}
use Rattle.grid.specs.Panel.{same_cell}
use Rattle.count.specs.declared.ClassCount.{ClassCount}
use Rattle.count.specs.Count.{found, class_count}

-- equal terminals are class 6 with count 1, tried before class 1; different ones have the class and the count of Theorem 4.1
unfoldable pub order_class_count : Panel → Cell → Cell → ClassCount
order_class_count p s t = cond (same_cell s t) (found 6 1) (class_count p s t)

-- the class of an order
abbrev pub order_class : Panel → Cell → Cell → ℕ
order_class p s t = (order_class_count p s t).class

-- the count of cells of an order
abbrev pub order_count : Panel → Cell → Cell → ℕ
order_count p s t = (order_class_count p s t).count.0
