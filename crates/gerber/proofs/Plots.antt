-- Where a cell's centre is: how large its two numbers are, that they tell the cell (`column_back`, `row_back`), and that the panel lies as
-- it should: columns a pitch apart to the right, rows a pitch apart with row 1 on top, and half a pitch around (`next_column`, ..).
use Prim.Native.Nat.{ℕ, ◌+◌, ◌-◌, ◌*◌, ◌/◌, ◌≤◌}
use mathlib.Core.Path.{◌≡◌, refl, ap, ◌∙◌}
use native.Mathlib.Omega.{arith}
use native.Mathlib.Nat.{mul-le-mul, div-eq_of_lt-le}
use Rattle.grid.specs.declared.Panel.{Panel}
use Rattle.grid.specs.declared.Cell.{Cell}
use Rattle.grid.specs.Panel.{cell, GoodPanel, OnPanel}
use Rattle.gerber.specs.Layer.{plot_x, plot_y}

-- ---- how large

-- so many halves of a pitch fit 32 bits
pub halves_small : (k q : ℕ) → k ≤ 255 → q ≤ 10000 → (k * q ≤ 2550000) × (k * q * 500 ≤ 1275000000)
halves_small k q h g =
    let e : k * q ≤ 2550000 = mul-le-mul h g in
    (e, omega arith)

-- the halves to the centre of a cell
module _ {p : Panel} (g : GoodPanel p) {c : Cell} (o : OnPanel p c) where
  pub column_small : 2 * c.x - 1 ≤ 255
  column_small = omega (arith, g.sides.widest, o.right)

  pub row_small : 2 * (p.height - c.y) + 1 ≤ 255
  row_small = omega (arith, g.sides.highest, o.top)

  pub plot_x_small : plot_x p c ≤ 1275000000
  unfolding plot_x
  plot_x_small = (halves_small (2 * c.x - 1) p.pitch column_small g.coarsest).1

  pub plot_y_small : plot_y p c ≤ 1275000000
  unfolding plot_y
  plot_y_small = (halves_small (2 * (p.height - c.y) + 1) p.pitch row_small g.coarsest).1

-- ---- the cell back

-- an odd number of halves has so many whole pitches
wholes : (k q : ℕ) → 1 ≤ q → (2 * k + 1) * q * 500 / (q * 1000) ≡ k
wholes k q h = div-eq_of_lt-le (q * 1000) (omega arith) (omega arith)

module _ {p : Panel} (g : GoodPanel p) {c : Cell} (o : OnPanel p c) where
  pub column_back : plot_x p c / (p.pitch * 1000) + 1 ≡ c.x
  unfolding plot_x
  column_back =
      let k = c.x - 1 in
      let e : 2 * c.x - 1 ≡ 2 * k + 1 = omega (arith, o.left) in
      let w = ap (λ (j : ℕ). j * p.pitch * 500 / (p.pitch * 1000)) e ∙ wholes k p.pitch (omega (arith, g.finest)) in
      omega (arith, w, o.left)

  pub row_back : p.height - plot_y p c / (p.pitch * 1000) ≡ c.y
  unfolding plot_y
  row_back = omega (arith, wholes (p.height - c.y) p.pitch (omega (arith, g.finest)), o.bottom)

-- ---- how the panel lies

module _ (p : Panel) (x y : ℕ) where
  -- to the right by one pitch, on the same height
  pub next_column : 1 ≤ x → (plot_x p (cell (x + 1) y) ≡ plot_x p (cell x y) + p.pitch * 1000) × (plot_y p (cell (x + 1) y) ≡ plot_y p (cell x y))
  unfolding plot_x plot_y
  next_column h =
      let e : 2 * (x + 1) - 1 ≡ 2 * x - 1 + 2 = omega arith in
      (ap (λ (k : ℕ). k * p.pitch * 500) e ∙ omega arith, refl)

  -- down by one pitch, on the same column
  pub next_row : y + 1 ≤ p.height
      → (plot_y p (cell x y) ≡ plot_y p (cell x (y + 1)) + p.pitch * 1000) × (plot_x p (cell x (y + 1)) ≡ plot_x p (cell x y))
  unfolding plot_x plot_y
  next_row h =
      let e : 2 * (p.height - y) + 1 ≡ 2 * (p.height - (y + 1)) + 1 + 2 = omega arith in
      (ap (λ (k : ℕ). k * p.pitch * 500) e ∙ omega arith, refl)

-- the lower left cell's centre is half a pitch from both edges
pub lower_left : (p : Panel) → (plot_x p (cell 1 p.height) ≡ p.pitch * 500) × (plot_y p (cell 1 p.height) ≡ p.pitch * 500)
unfolding plot_x plot_y
lower_left p =
    let e : 2 * (p.height - p.height) + 1 ≡ 1 = omega arith in
    (omega arith, ap (λ (k : ℕ). k * p.pitch * 500) e ∙ omega arith)
