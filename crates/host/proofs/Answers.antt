-- What the calls answer fits into its place of the packed number: a class is at most 6, and a count at most mn.
use Rattle.grid.specs.declared.Refusal.{Refusal}
use Rattle.std.specs.Prelude.{Result, Ok, Err}
use Rattle.grid.specs.declared.Cells.{Cells}
use Rattle.count.specs.declared.ClassCount.{ClassCount}
use Prim.Native.Nat.{ℕ, ◌*◌, ◌≤◌, ◌<◌, ◌^◌}
use native.Mathlib.Omega.{arith}
use mathlib.Core.Path.{◌≡◌, refl, subst, ◌∙◌}
use mathlib.Core.List.{List}
use lib.Dec.{leb}
use lib.ListN.{length}
use Rattle.grid.specs.declared.Panel.{Panel}
use Rattle.grid.specs.declared.Cell.{Cell}
use Rattle.grid.specs.Check.{Check}
use Rattle.grid.specs.declared.Refusal.TheVariants.{ShortBuffer}
use Rattle.grid.specs.Check.{check_order, expect}
use Rattle.grid.specs.Answer.{given, cells_answer, cells_values, GivesCells}
use Rattle.grid.proofs.Facts.{area_small}
use Rattle.grid.proofs.Passed.{after_passed, good_order}
use Rattle.count.specs.Order.{order_class, order_count}
use Rattle.count.proofs.Terminals.{order_bounds, order_class_small}
use Rattle.bound.specs.Bound.{bound_values, GivesBound, Bounds}
use Rattle.draw.specs.Draw.{draw_check, Leaves, Draws, draw_buffer}
use Rattle.judge.specs.Judge.{Judges}
use Rattle.judge.proofs.Checks.{count_small}
use Rattle.host.specs.Host.{packed, packed_behind, PacksBound, PacksDraw, PacksJudge}

-- a value is as small behind its check as where the check is good
given_most : (c : Check) (k n : ℕ) → (c ≡ Ok tt → k ≤ n) → given c k ≤ n
given_most (Ok tt) k n h = h refl
given_most (Err r) k n h = omega arith

module _ (p : Panel) (s t : Cell) where
  order_small : check_order p s t ≡ Ok tt → order_count p s t ≤ 16384
  order_small e =
      let g = good_order p s t e in
      omega (arith, (order_bounds p s t g.entry g.exit).1, area_small g.panel.sides)

  draw_small : (size : ℕ) → draw_check p s t size ≡ Ok tt → order_count p s t ≤ 16384
  draw_small size e = order_small (after_passed (check_order p s t) (expect (leb (2 * order_count p s t) size) ShortBuffer (Ok tt)) e)

count_fits : (c : Check) (k : ℕ) → (c ≡ Ok tt → k ≤ 16384) → given c k < 2 ^ 24
count_fits c k h = omega (arith, given_most c k 16384 h)

-- ---- an answer in class and count

abbrev BoundFits : Result ClassCount Refusal → Type 0
BoundFits a = ((bound_values a).class < 2 ^ 8) × ((bound_values a).count.0 < 2 ^ 24)

abbrev BoundPacked : Result ClassCount Refusal → ℕ → Type 0
BoundPacked a r = r ≡ packed (bound_values a).refusal (bound_values a).class (bound_values a).count.0

module _ {c : Check} {p : Panel} {s t : Cell} {a : Result ClassCount Refusal} (g : GivesBound c p s t a) where
  fits_bound : (c ≡ Ok tt → order_count p s t ≤ 16384) → BoundFits a
  fits_bound h = (
    omega (arith, g.class, given_most c (order_class p s t) 6 (λ e. order_class_small p s t)),
    omega (arith, g.count, count_fits c (order_count p s t) h),
  )

  behind_bound : {r : ℕ} → BoundPacked a r → r ≡ packed_behind c (order_class p s t) (order_count p s t)
  behind_bound e = e ∙ (λ i. packed (g.number i) (g.class i) (g.count i))

module _ {p : Panel} {s t : Cell} {a : Result ClassCount Refusal} where
  pub bound_fits : Bounds p s t a → BoundFits a
  bound_fits b = fits_bound b (order_small p s t)

  pub bound_packed : {r : ℕ} → Bounds p s t a → BoundPacked a r → PacksBound p s t r
  bound_packed b e = record { packs = behind_bound b e }

-- ---- an answer in cells

abbrev CellsFit : Result Cells Refusal → Type 0
CellsFit a = (cells_values a).cells.0 < 2 ^ 24

abbrev CellsPacked : Result Cells Refusal → ℕ → Type 0
CellsPacked a r = r ≡ packed (cells_values a).refusal 0 (cells_values a).cells.0

module _ {c : Check} {k : ℕ} {a : Result Cells Refusal} (g : GivesCells c k a) where
  fit_cells : (c ≡ Ok tt → k ≤ 16384) → CellsFit a
  fit_cells h = omega (arith, g.count, count_fits c k h)

  behind_cells : {r : ℕ} → CellsPacked a r → r ≡ packed_behind c 0 k
  behind_cells e = e ∙ (λ i. packed (g.number i) (no_class c i) (g.count i))
    where
      no_class : (d : Check) → 0 ≡ given d 0
      no_class (Ok tt) = refl
      no_class (Err r) = refl

  -- the buffer is what the answer says
  leaves_given : (p : Panel) (s t : Cell) (old new : List ℕ) → Leaves p s t old new a → Leaves p s t old new (cells_answer c k)
  leaves_given p s t old new = subst (λ (r : Result Cells Refusal). Leaves p s t old new r) g.answers

module _ {p : Panel} {s t : Cell} {old new : List ℕ} {a : Result Cells Refusal} where
  pub draw_fits : Draws p s t old new a → CellsFit a
  draw_fits d = fit_cells d.gives (draw_small p s t (length old))

  pub draw_packed : {r : ℕ} → Draws p s t old new a × (new ≡ draw_buffer p s t old) → CellsPacked a r → PacksDraw p s t old new r
  draw_packed (d, w) e = record { packs = behind_cells d.gives e; leaves = leaves_given d.gives p s t old new d.leaves; cells = w }

module _ {p : Panel} {s t : Cell} {list old new : List ℕ} {a : Result Cells Refusal} where
  pub judge_fits : Judges p s t list old new a → CellsFit a
  judge_fits j = fit_cells j.gives (count_small p s t list (length old))

  pub judge_packed : {r : ℕ} → Judges p s t list old new a → CellsPacked a r → PacksJudge p s t list old new r
  judge_packed j e = record { packs = behind_cells j.gives e; scratch = j.scratch }
