-- What the C host gets: a call's number, class and count as one number, which can be taken apart again (proofs/Packing.antt).
use Rattle.std.specs.Prelude.{ℕ, ◌+◌, ◌*◌, ◌/◌, ◌%◌, ◌^◌, ◌≡◌, List, length}
use Rattle.grid.specs.declared.Panel.{Panel}
use Rattle.grid.specs.declared.Cell.{Cell}
use Rattle.grid.specs.Check.{Check}
use Rattle.grid.specs.Check.{check_order}
use Rattle.grid.specs.Bytes.{cells_in}
use Rattle.grid.specs.Answer.{refusal_number, given, cells_answer}
use Rattle.count.specs.Order.{order_class, order_count}
use Rattle.draw.specs.Draw.{draw_check, Leaves, draw_buffer}
use Rattle.judge.specs.Judge.{judge_check, scratch_after}
use Rattle.bench.specs.Bench.{on_bench, bench_buffer, bench_scratch}

-- refusal · 2^32 + class · 2^24 + count
abbrev pub packed : ℕ → ℕ → ℕ → ℕ
packed refusal class count = refusal * 2 ^ 32 + class * 2 ^ 24 + count

-- what the host takes it apart into
abbrev pub refusal_in : ℕ → ℕ
refusal_in k = k / 2 ^ 32

abbrev pub class_in : ℕ → ℕ
class_in k = k / 2 ^ 24 % 2 ^ 8

abbrev pub count_in : ℕ → ℕ
count_in k = k % 2 ^ 24

-- the packed number of what a check refuses, or of class and count
abbrev pub packed_behind : Check → ℕ → ℕ → ℕ
packed_behind c class count = packed (refusal_number c) (given c class) (given c count)

-- Bound's answer, packed
pub record PacksBound (p : Panel) (s t : Cell) (r : ℕ) : Type 0 where
  pub packs : r ≡ packed_behind (check_order p s t) (order_class p s t) (order_count p s t)

-- Draw's answer, packed, and the buffer as Draw leaves it, by property and by its cells; there is no class
pub record PacksDraw (p : Panel) (s t : Cell) (old new : List ℕ) (r : ℕ) : Type 0 where
  pub packs : r ≡ packed_behind (draw_check p s t (length old)) 0 (order_count p s t)
  pub leaves : Leaves p s t old new (cells_answer (draw_check p s t (length old)) (order_count p s t))
  pub cells : new ≡ draw_buffer p s t old

-- Judge's answer, packed, and scratch as Judge leaves it; there is no class
pub record PacksJudge (p : Panel) (s t : Cell) (list old new : List ℕ) (r : ℕ) : Type 0 where
  pub packs : r ≡ packed_behind (judge_check p s t list (length old)) 0 (length (cells_in list))
  pub scratch : new ≡ scratch_after p s t list old

-- the same of the bench's calls
pub record PacksBenchBound (p : Panel) (s t : Cell) (r : ℕ) : Type 0 where
  pub packs : r ≡ packed_behind (on_bench p (check_order p s t)) (order_class p s t) (order_count p s t)

pub record PacksBenchDraw (p : Panel) (s t : Cell) (old new : List ℕ) (r : ℕ) : Type 0 where
  pub packs : r ≡ packed_behind (on_bench p (draw_check p s t (length old))) 0 (order_count p s t)
  pub leaves : Leaves p s t old new (cells_answer (on_bench p (draw_check p s t (length old))) (order_count p s t))
  pub cells : new ≡ bench_buffer p s t old

pub record PacksBenchJudge (p : Panel) (s t : Cell) (list old new : List ℕ) (r : ℕ) : Type 0 where
  pub packs : r ≡ packed_behind (on_bench p (judge_check p s t list (length old))) 0 (length (cells_in list))
  pub scratch : new ≡ bench_scratch p s t list old
