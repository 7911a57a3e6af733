-- Document 01, "Operations": Bound gives class and count, or refuses. A refusal gives 0 for all.
use Rattle.std.specs.Prelude.{◌≡◌, Result, Ok, Err}
use Rattle.grid.specs.declared.Panel.{Panel}
use Rattle.grid.specs.declared.Cell.{Cell}
use Rattle.grid.specs.declared.Refusal.{Refusal}
use Rattle.grid.specs.Check.{Check, check_order, answer}
use Rattle.grid.specs.Refusal.{number}
use Rattle.grid.specs.Answer.{refusal_number, given}
use Rattle.count.specs.declared.ClassCount.{ClassCount}
use Rattle.count.specs.Order.{order_class_count, order_class, order_count}
use Rattle.bound.specs.declared.BoundValues.{BoundValues}

-- the answer: the check's refusal, or class and count
abbrev pub bound_answer : Check → Panel → Cell → Cell → Result ClassCount Refusal
bound_answer c p s t = answer c Err (Ok (order_class_count p s t))

-- refused, in order, 1, 18, 2, 3; else class and count
abbrev pub bound_of : Panel → Cell → Cell → Result ClassCount Refusal
bound_of p s t = bound_answer (check_order p s t) p s t

-- number, class and count of an answer
abbrev pub bound_values : Result ClassCount Refusal → BoundValues
bound_values (Err r) = record { refusal = number r; class = 0; count = record { 0 = 0 } }
bound_values (Ok f) = record { refusal = 0; class = f.class; count = f.count }

-- a call gives class and count, or what its check refuses
pub record GivesBound (c : Check) (p : Panel) (s t : Cell) (r : Result ClassCount Refusal) : Type 0 where
  pub answers : r ≡ bound_answer c p s t
  pub number : (bound_values r).refusal ≡ refusal_number c
  pub class : (bound_values r).class ≡ given c (order_class p s t)
  pub count : (bound_values r).count.0 ≡ given c (order_count p s t)

-- what Bound promises
abbrev pub Bounds : Panel → Cell → Cell → Result ClassCount Refusal → Type 0
Bounds p s t r = GivesBound (check_order p s t) p s t r
