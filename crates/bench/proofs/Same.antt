-- R-7: on a panel that both take, the bench's calls and those for large panels give equal answers and leave equal buffers. Asked for are sides of
-- at most 32 alone: where such a panel is refused, both refuse it alike.
use Rattle.grid.specs.declared.Refusal.{Refusal}
use Rattle.std.specs.Prelude.{Result, Ok, Err}
use Rattle.grid.specs.declared.Cells.{Cells}
use Rattle.count.specs.declared.ClassCount.{ClassCount}
use Prim.Native.Nat.{ℕ, ◌≤◌}
use mathlib.Core.Path.{◌≡◌, refl, sym, ap, ◌∙◌, subst₂}
use mathlib.Core.Bool.{Bool, true}
use mathlib.Core.List.{List}
use lib.ListN.{length}
use borrow.Author.Tests.{le-leb}
use Rattle.grid.specs.declared.Panel.{Panel}
use Rattle.grid.specs.declared.Cell.{Cell}
use Rattle.grid.specs.declared.Refusal.TheVariants.{BenchSide}
use Rattle.grid.specs.Check.{Check}
use Rattle.grid.specs.Check.{expect, after, answer, check_panel, check_entry, check_order}
use Rattle.grid.specs.Answer.{cells_answer, GivesCells}
use Rattle.grid.proofs.Facts.{and_both}
use Rattle.grid.proofs.Tests.{after_after}
use Rattle.grid.proofs.Answers.{answer_after}
use Rattle.bound.specs.Bound.{bound_answer, Bounds}
use Rattle.list.specs.List.{with_cells}
use Rattle.draw.specs.Track.{drawn_track}
use Rattle.draw.specs.Draw.{draw_check, Draws, draw_buffer}
use Rattle.judge.specs.Judge.{sizes_check, judge_check, scratch_after, Judges}
use Rattle.bench.specs.Bench.{bench_side, fits_bench, check_bench, on_bench, bench_buffer, bench_scratch, BenchBounds, BenchDraws, BenchJudges}

-- ---- checks that test the panel first: to test it before them changes nothing

again : (c : Check) → after c c ≡ c
again (Ok tt) = refl
again (Err r) = refl

module _ (p : Panel) where
  abbrev PanelFirst : Check → Type 0
  PanelFirst c = after (check_panel p) c ≡ c

  then : (c k : Check) → PanelFirst c → PanelFirst (after c k)
  then c k e = sym (after_after (check_panel p) c k) ∙ ap (λ (d : Check). after d k) e

  order_first : (s t : Cell) → PanelFirst (check_order p s t)
  order_first s t = then (check_entry p s) _ (then (check_panel p) _ (again (check_panel p)))

  sizes_first : (s t : Cell) (bytes room : ℕ) → PanelFirst (sizes_check p s t bytes room)
  sizes_first s t bytes room = then (check_order p s t) _ (order_first s t)

-- ---- the checks and the calls

module _ (p : Panel) (w : p.width ≤ bench_side) (h : p.height ≤ bench_side) where
  fits : fits_bench p ≡ true
  fits = and_both (le-leb _ _ w) (le-leb _ _ h)

  same : (c : Check) → PanelFirst p c → on_bench p c ≡ c
  same c e =
      after_after (check_panel p) (expect (fits_bench p) BenchSide (Ok tt)) c
      ∙ ap (λ (b : Bool). after (check_panel p) (after (expect b BenchSide (Ok tt)) c)) fits
      ∙ e

  module _ (s t : Cell) where
    pub order_same : on_bench p (check_order p s t) ≡ check_order p s t
    order_same = same _ (order_first p s t)

    pub draw_check_same : (size : ℕ) → on_bench p (draw_check p s t size) ≡ draw_check p s t size
    draw_check_same size = same _ (then p (check_order p s t) _ (order_first p s t))

    pub judge_check_same : (list : List ℕ) (room : ℕ) → on_bench p (judge_check p s t list room) ≡ judge_check p s t list room
    judge_check_same list room = same _ (then p (sizes_check p s t (length list) room) _ (sizes_first p s t (length list) room))

    pub scratch_same : (list old : List ℕ) → bench_scratch p s t list old ≡ scratch_after p s t list old
    scratch_same list old =
        let sizes = sizes_check p s t (length list) (length old) in
        answer_after (check_bench p) sizes _ _ (same sizes (sizes_first p s t (length list) (length old)))

    pub buffer_same : (old : List ℕ) → bench_buffer p s t old ≡ draw_buffer p s t old
    buffer_same old = ap (λ (c : Check). answer c (λ r. old) (with_cells (drawn_track p.width p.height s t) old)) (draw_check_same (length old))

    -- two answers in cells behind equal checks
    cells_same : {c d : Check} {k : ℕ} {r r' : Result Cells Refusal} → c ≡ d → GivesCells c k r → GivesCells d k r' → r ≡ r'
    cells_same {k = k} e g g' = g.answers ∙ ap (λ (c : Check). cells_answer c k) e ∙ sym g'.answers

    pub bound_same : {r r' : Result ClassCount Refusal} → BenchBounds p s t r → Bounds p s t r' → r ≡ r'
    bound_same b b' = b.answers ∙ ap (λ (c : Check). bound_answer c p s t) order_same ∙ sym b'.answers

    module _ {old new new' : List ℕ} {r r' : Result Cells Refusal}
        (b : BenchDraws p s t old new r × (new ≡ bench_buffer p s t old)) (d : Draws p s t old new' r' × (new' ≡ draw_buffer p s t old)) where
      pub draw_same : (r ≡ r') × (new ≡ new')
      draw_same = (cells_same (draw_check_same (length old)) b.0.gives d.0.gives, b.1 ∙ buffer_same old ∙ sym d.1)

      -- so the longest-track sentence, which is of the large call, holds of what the bench answers and leaves
      pub bench_longest : Draws p s t old new r
      bench_longest = subst₂ (λ (r : Result Cells Refusal) (new : List ℕ). Draws p s t old new r) (sym draw_same.0) (sym draw_same.1) d.0

    pub judge_same : {list old new new' : List ℕ} {r r' : Result Cells Refusal}
        → BenchJudges p s t list old new r → Judges p s t list old new' r' → (r ≡ r') × (new ≡ new')
    judge_same {list} {old} j j' =
        (cells_same (judge_check_same list (length old)) j.gives j'.gives, j.scratch ∙ scratch_same list old ∙ sym j'.scratch)
