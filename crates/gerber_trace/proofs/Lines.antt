-- A line to a cell's centre is read as that cell (`reads_line`), if its operation is the one looked for (`move_no_flash`); and what is read
-- as a cell is its line (`line_read`).
use Prim.Native.Nat.{ℕ, ◌≤◌}
use Prim.Native.Char.{code}
use mathlib.Core.Path.{◌≡◌, refl, sym, ap, ◌∙◌}
use mathlib.Core.Bool.{Bool, true, false, ◌&&◌}
use mathlib.Core.List.{List, ◌++◌}
use native.Mathlib.Omega.{arith}
use lib.ListN.{length, drop}
use lib.Dec.{eqb}
use borrow.Author.Tests.{eqb-true, eq-eqb}
use Rattle.grid.specs.declared.Panel.{Panel}
use Rattle.grid.specs.declared.Cell.{Cell}
use Rattle.grid.specs.Panel.{GoodPanel, OnPanel, on_panel}
use Rattle.grid.proofs.Facts.{clash, and_parts, and_both, is_on, cell_eq}
use Rattle.grid.proofs.Tests.{cond_yes, cond_no}
use Rattle.text.specs.Ascii.{ascii}
use Rattle.text.specs.Field.{largest_number, field_of}
use Rattle.text.proofs.Fronts.{reads_behind, goes_behind}
use Rattle.text.proofs.Numbers.{reads_next, goes_on}
use Rattle.gerber.specs.Layer.{plot_x, plot_y, flash, move, line_to}
use Rattle.gerber.proofs.Plots.{plot_x_small, plot_y_small, column_back, row_back}
use Rattle.gerber_trace.specs.Trace.{Aim, plotted, is_centre, centred, behind_d, behind_y, behind_x, line_at}
use Rattle.gerber_trace.specs.Trace.Aim.{nothing, cell_and}

-- ---- what is written is read

module _ {p : Panel} (g : GoodPanel p) {c : Cell} (o : OnPanel p c) where
  -- the centre tells the cell
  plotted_back : plotted p (plot_x p c) (plot_y p c) ≡ c
  unfolding plotted
  plotted_back = cell_eq (column_back g o) (row_back g o)

  centred_back : (r : List ℕ) → cell_and c r ≡ centred p (plot_x p c) (plot_y p c) r
  centred_back r =
      let same = and_both (eq-eqb (plot_x p c) _ refl) (eq-eqb (plot_y p c) _ refl) in
      let centre : is_centre p (plot_x p c) (plot_y p c) c ≡ true = and_both (is_on o) same in
      cond_yes _ _ (ap (is_centre p (plot_x p c) (plot_y p c)) plotted_back ∙ centre) (ap (λ (d : Cell). cell_and d r) (sym plotted_back))

  -- the numbers are read, and what they go on to behind the D, where another operation may stand than the one looked for
  reads_numbers : (sought operation r : List ℕ) {y : Aim} → y ≡ behind_d p sought (plot_x p c) (plot_y p c) (operation ++ r)
      → y ≡ line_at p sought (line_to p operation c r)
  reads_numbers sought operation r e =
      let x_small : plot_x p c ≤ largest_number = omega (arith, plot_x_small g o) in
      let y_small : plot_y p c ≤ largest_number = omega (arith, plot_y_small g o) in
      let tail = operation ++ r in
      reads_behind nothing (behind_x p sought) (ascii "X") (field_of (plot_x p c) (code "Y") (field_of (plot_y p c) (code "D") tail))
      (reads_next nothing (plot_x p c) (code "Y") (field_of (plot_y p c) (code "D") tail) (behind_y p sought) refl x_small
      (reads_next nothing (plot_y p c) (code "D") tail (behind_d p sought (plot_x p c)) refl y_small e))

  pub reads_line : (operation r : List ℕ) → cell_and c r ≡ line_at p operation (line_to p operation c r)
  reads_line operation r =
      reads_numbers operation operation r (reads_behind nothing (centred p (plot_x p c) (plot_y p c)) operation r (centred_back r))

  pub move_no_flash : (r : List ℕ) → nothing ≡ line_at p flash (line_to p move c r)
  move_no_flash r = reads_numbers flash move r refl

-- ---- what is read is written so

module _ (p : Panel) (c : Cell) (r : List ℕ) where
  -- a and b are the numbers of the cell's centre, which is on the panel
  centred_read : (a b : ℕ) (l : List ℕ) → centred p a b l ≡ cell_and c r
      → (on_panel p c ≡ true) × (plot_x p c ≡ a) × (plot_y p c ≡ b) × (l ≡ r)
  centred_read a b l q = go (is_centre p a b (plotted p a b)) refl
    where
      go : (t : Bool) → is_centre p a b (plotted p a b) ≡ t → (on_panel p c ≡ true) × (plot_x p c ≡ a) × (plot_y p c ≡ b) × (l ≡ r)
      go true e =
          let found : cell_and (plotted p a b) l ≡ cell_and c r = cond_yes _ _ e refl ∙ q in
          let is : plotted p a b ≡ c = cc in
          let (on, at) = and_parts (on_panel p c) (eqb (plot_x p c) a && eqb (plot_y p c) b) (sym (ap (is_centre p a b) is) ∙ e) in
          let (x, y) = and_parts (eqb (plot_x p c) a) (eqb (plot_y p c) b) at in
          (on, eqb-true _ _ x, eqb-true _ _ y, cc)
      go false e = let found : nothing ≡ cell_and c r = cond_no _ _ e refl ∙ q in clash (cc)

  -- the parts of the line, one behind another
  joined : (operation : List ℕ) {l l₁ l₂ l₃ l₄ : List ℕ} {a b : ℕ}
      → l ≡ ascii "X" ++ l₁ → l₁ ≡ field_of a (code "Y") l₂ → l₂ ≡ field_of b (code "D") l₃ → l₃ ≡ operation ++ l₄
      → plot_x p c ≡ a → plot_y p c ≡ b → l₄ ≡ r → l ≡ line_to p operation c r
  joined operation {a = a} {b = b} e f g h x y t =
      e
      ∙ ap (λ (k : List ℕ). ascii "X" ++ k) (f ∙ ap (field_of a (code "Y")) (g ∙ ap (field_of b (code "D")) h))
      ∙ ap (λ (k : List ℕ). ascii "X" ++ field_of a (code "Y") (field_of b (code "D") (operation ++ k))) t
      ∙ sym (λ i. ascii "X" ++ field_of (x i) (code "Y") (field_of (y i) (code "D") (operation ++ r)))

  pub line_read : (operation l : List ℕ) → line_at p operation l ≡ cell_and c r → (l ≡ line_to p operation c r) × (on_panel p c ≡ true)
  line_read operation l q =
      let other : nothing ≡ cell_and c r → ⊥ = λ e. clash (cc) in
      let (front, on) = goes_behind nothing (behind_x p operation) (ascii "X") l other q in
      let x = goes_on nothing (code "Y") (drop 1 l) (behind_y p operation) other on in
      let y = goes_on nothing (code "D") x.rest (behind_d p operation x.number) other x.on in
      let (tail, last) = goes_behind nothing (centred p x.number y.number) operation y.rest other y.on in
      let (is_on, is_x, is_y, is-r) = centred_read x.number y.number (drop (length operation) y.rest) last in
      (joined operation front x.bytes y.bytes tail is_x is_y is-r, is_on)
