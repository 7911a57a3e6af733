-- On a panel with more than three rows and more than three columns Exit gives one of the first three cells of the top row, where the colours
-- allow the wanted count.
use Rattle.std.specs.Prelude.{Ok, Option, Some, None}
use Prim.Native.Nat.{ℕ, ◌*◌, ◌/◌, ◌%◌, ◌≤◌, ◌<◌}
use mathlib.Core.Path.{◌≡◌, refl, sym, ap, ◌∙◌, subst, subst⁻¹}
use mathlib.Core.Logic.{◌≢◌, inl, inr}
use mathlib.Core.Bool.{Bool, true, false, cond, true≢false}
use native.Mathlib.Omega.{arith}
use native.Mathlib.Decide.{ℕ_discrete}
use borrow.Author.Tests.{eqb-true}
use Rattle.grid.specs.declared.Panel.{Panel}
use Rattle.grid.specs.declared.Cell.{Cell}
use Rattle.grid.specs.declared.Cells.{Cells}
use Rattle.grid.specs.Check.{check_entry}
use Rattle.grid.specs.Panel.{OnPanel, area, black, cell}
use Rattle.grid.proofs.Facts.{ne_x}
use Rattle.count.specs.declared.ClassCount.{ClassCount}
use Rattle.count.specs.Count.{odd}
use Rattle.count.specs.ByColour.{coloured, by_colour}
use Rattle.count.proofs.Laws.{class_by_colour}
use Rattle.exit.specs.Exit.{fits, first_fit, exit_of}
use Rattle.exit.specs.First.{Before}
use Rattle.exit.specs.Most.{most}
use Rattle.exit.proofs.Answers.{searched}
use Rattle.exit.proofs.Fitting.{is_fit}
use Rattle.exit.proofs.Reading.{FirstOn, first_on, none_on}

-- a cell that passes a test is not read before the first one
module _ (p : Panel) (s : Cell) (w : Cells) where
  record FoundBy (d : Cell) : Type 0 where
    c : Cell
    found : Some c ≡ first_fit p s w
    first : FirstOn (fits p s w) p c
    not_after : ¬ Before d c

  found_by : (d : Cell) → OnPanel p d → fits p s w d ≡ true → FoundBy d
  found_by d o e = go (first_fit p s w) refl
    where
      go : (r : Option Cell) → r ≡ first_fit p s w → FoundBy d
      go None q = absurd (true≢false (sym e ∙ none_on (fits p s w) p q d o))
      go (Some c) q =
          let r = first_on (fits p s w) p c q in
          record { c = c; found = q; first = r; not_after = λ b. true≢false (sym e ∙ r.none d o b) }

-- Exit gives one of the first three cells of the top row
pub record TopLeft (p : Panel) (s : Cell) (w : Cells) : Type 0 where
  pub c : Cell
  pub given : exit_of p s w ≡ Ok c
  pub top : c.y ≡ 1
  pub left : c.x ≤ 3

module _ (p : Panel) (s : Cell) (w : Cells) (g : check_entry p s ≡ (Ok tt)) (wide : 3 < p.width) (high : 3 < p.height) where
  -- cell x of the top row fits, by the colours
  near : (x : ℕ) → 1 ≤ x → x ≤ 3 → s ≢ cell x 1 → {o b : Bool} → odd (area p) ≡ o → black s ≡ b
      → w.0 ≤ (coloured (area p) o b (black (cell x 1))).count.0 → TopLeft p s w
  near x l u n {o} {b} eo eb h =
      let colours : by_colour p s (cell x 1) ≡ coloured (area p) o b (black (cell x 1)) = λ i. coloured (area p) (eo i) (eb i) (black (cell x 1)) in
      let enough = subst⁻¹ (λ (r : ClassCount). w.0 ≤ r.count.0) (class_by_colour p s (cell x 1) wide high ∙ colours) h in
      let fit = is_fit p s w (cell x 1) n enough in
      let f = found_by p s w (cell x 1) (record { left = l; right = omega arith; top = omega arith; bottom = omega arith }) fit in
      let not_below : ¬ (1 < f.c.y) = λ q. f.not_after (inl q) in
      let low = f.first.on.top in
      let top : f.c.y ≡ 1 = omega arith in
      let not_right : ¬ (x < f.c.x) = λ q. f.not_after (inr (sym top, q)) in
      record { c = f.c; given = sym (searched p s w (Some f.c) g f.found); top = top; left = omega arith }

  pub top_left : w.0 ≤ most p s → TopLeft p s w
  top_left h = go (odd (area p)) (black s) refl refl
    where
      allowed : {b : Bool} → black s ≡ b → w.0 ≤ cond b (2 * (area p / 2)) (area p)
      allowed e = subst (λ (b : Bool). w.0 ≤ cond b (2 * (area p / 2)) (area p)) e h

      go : (o b : Bool) → odd (area p) ≡ o → black s ≡ b → TopLeft p s w
      go false true eo eb = let a = allowed eb in near 1 (omega arith) (omega arith) (λ q. true≢false (sym eb ∙ ap black q)) eo eb (omega arith)
      go false false eo eb = let a = allowed eb in near 2 (omega arith) (omega arith) (λ q. true≢false (sym (ap black q) ∙ eb)) eo eb (omega arith)
      go true true eo eb =
          let a = allowed eb in
          near 1 (omega arith) (omega arith) (λ q. true≢false (sym eb ∙ ap black q)) eo eb (omega (arith, eqb-true (area p % 2) 1 eo))
      go true false eo eb = let a = allowed eb in elim (ℕ_discrete s.x 1) [
        | yes q ↦ near 3 (omega arith) (omega arith) (ne_x (omega arith)) eo eb (omega arith)
        | no q ↦ near 1 (omega arith) (omega arith) (ne_x q) eo eb (omega arith)
      ]
