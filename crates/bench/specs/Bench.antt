-- Document 02, R-7: the bench cutter's own Bound, Draw and Judge. They refuse a side from 33 to 128 by 19, right after 18, and are otherwise the
-- calls for large panels.
use Rattle.grid.specs.declared.Refusal.{Refusal}
use Rattle.std.specs.Prelude.{Result, Ok}
use Rattle.grid.specs.declared.Cells.{Cells}
use Rattle.count.specs.declared.ClassCount.{ClassCount}
use Rattle.std.specs.Prelude.{ℕ, ◌≡◌, Bool, ◌&&◌, List, leb, length}
use Rattle.grid.specs.declared.Panel.{Panel}
use Rattle.grid.specs.declared.Cell.{Cell}
use Rattle.grid.specs.declared.Refusal.TheVariants.{BenchSide}
use Rattle.grid.specs.Check.{Check}
use Rattle.grid.specs.Bytes.{cells_in}
use Rattle.grid.specs.Check.{expect, after, answer, check_panel, check_order}
use Rattle.grid.specs.Answer.{GivesCells}
use Rattle.count.specs.Order.{order_count}
use Rattle.bound.specs.Bound.{GivesBound}
use Rattle.list.specs.List.{with_cells}
use Rattle.draw.specs.Track.{drawn_track}
use Rattle.draw.specs.Draw.{draw_check, Leaves}
use Rattle.judge.specs.Judge.{judge_check, scratch_after}

-- the cutter's bed takes so many cells a side
abbrev pub bench_side : ℕ
bench_side = 32

-- both sides fit it
abbrev pub fits_bench : Panel → Bool
fits_bench p = leb p.width bench_side && leb p.height bench_side

-- 1; 18; 19, a side from 33 to 128
abbrev pub check_bench : Panel → Check
check_bench p = after (check_panel p) (expect (fits_bench p) BenchSide (Ok tt))

-- the refusals of a bench call: 1, 18, 19, then those of the call for large panels, of which 1 and 18 have passed
abbrev pub on_bench : Panel → Check → Check
on_bench p c = after (check_bench p) c

-- what Bound promises on the bench
abbrev pub BenchBounds : Panel → Cell → Cell → Result ClassCount Refusal → Type 0
BenchBounds p s t r = GivesBound (on_bench p (check_order p s t)) p s t r

-- what Draw promises on the bench: the count, or what the check refuses; and the buffer as Draw leaves it
pub record BenchDraws (p : Panel) (s t : Cell) (old new : List ℕ) (r : Result Cells Refusal) : Type 0 where
  pub gives : GivesCells (on_bench p (draw_check p s t (length old))) (order_count p s t) r
  pub leaves : Leaves p s t old new r

-- which longest track it is: the buffer after the call, as it was where the check refuses, else with Draw's track at its front
abbrev pub bench_buffer : Panel → Cell → Cell → List ℕ → List ℕ
bench_buffer p s t old = answer (on_bench p (draw_check p s t (length old))) (λ r. old) (with_cells (drawn_track p.width p.height s t) old)

-- scratch after the call: untouched where 1, 18 or 19 is met, else as Judge leaves it
abbrev pub bench_scratch : Panel → Cell → Cell → List ℕ → List ℕ → List ℕ
bench_scratch p s t list old = answer (check_bench p) (λ r. old) (scratch_after p s t list old)

-- what Judge promises on the bench: the list's number of cells or the refusal, and scratch, which was old and is new
pub record BenchJudges (p : Panel) (s t : Cell) (list old new : List ℕ) (r : Result Cells Refusal) : Type 0 where
  pub gives : GivesCells (on_bench p (judge_check p s t list (length old))) (length (cells_in list)) r
  pub scratch : new ≡ bench_scratch p s t list old
