-- Legs drawn one after the other at the front of a buffer: what the drawing functions ask for and what they leave. No promise of Draw rests on this file.
use Rattle.std.specs.Prelude.{ℕ, ◌*◌, ◌≤◌, ◌≡◌, List, [], ◌∷◌, length}
use Rattle.grid.specs.declared.Cells.{Cells}
use Rattle.line.specs.Rectangle.{Inside}
use Rattle.line.specs.Drawn.{InBytes, written}
use Rattle.plan.specs.declared.Leg.{Leg}
use Rattle.plan.specs.Leg.{total, legs_cells}

-- every leg of the list has the property
pub data Each (P : Leg → Type 0) : List Leg → Type 0 where
  none : Each P []
  more : {g : Leg} {l : List Leg} → P g → Each P l → Each P (g ∷ l)

-- a leg whose coordinates are bytes, with its target in its rectangle
pub record Drawable (g : Leg) : Type 0 where
  pub corner : InBytes g.a
  pub opposite : InBytes g.b
  pub inside : Inside g.a g.b g.t

-- legs to draw, and room for their cells
pub record Room (l : List Leg) (buf : List ℕ) : Type 0 where
  pub each : Each Drawable l
  pub room : 2 * total l ≤ length buf

-- r is the number of the legs' cells, which stand at the front of the buffer; behind them it is the old one
pub record Written (l : List Leg) (r : Cells) (old new : List ℕ) : Type 0 where
  pub count : r.0 ≡ total l
  pub content : new ≡ written (legs_cells l) (total l) old
