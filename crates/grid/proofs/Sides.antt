-- Panels of the same sides have the same cells, neighbours and tracks, whatever their pitches; and where both pitches are in their range, the checks
-- of an order say the same. (`Neighbours` and the colour of a cell are given no panel at all.)
use Rattle.std.specs.Prelude.{Ok}
use Prim.Native.Nat.{ℕ}
use mathlib.Core.Path.{◌≡◌, sym, ap, ◌∙◌}
use mathlib.Core.Bool.{Bool, true}
use mathlib.Core.List.{List}
use Rattle.grid.specs.declared.Cell.{Cell}
use Rattle.grid.specs.Check.{Check}
use Rattle.grid.specs.declared.Refusal.TheVariants.{Side, Pitch, EntryOff, ExitOff}
use Rattle.grid.specs.Panel.{panel, good_sides, GoodSides, good_pitch, on_panel, OnPanel, Neighbours}
use Rattle.grid.specs.Track.{Track}
use Rattle.grid.specs.Check.{expect, check_panel, check_order, after}
use Rattle.grid.proofs.Track.{widen}

module _ {m n a b : ℕ} where
  pub cell_same : (c : Cell) → OnPanel (panel m n a) c → OnPanel (panel m n b) c
  cell_same c o = record { left = o.left; right = o.right; top = o.top; bottom = o.bottom }

  pub sides_same : GoodSides (panel m n a) → GoodSides (panel m n b)
  sides_same g = record { wide = g.wide; widest = g.widest; high = g.high; highest = g.highest }

  pub neighbour_same : (c d : Cell) → OnPanel (panel m n a) d × Neighbours c d → OnPanel (panel m n b) d × Neighbours c d
  neighbour_same c d (o, h) = (cell_same d o, h)

  pub track_same : {s t : Cell} {l : List Cell} → Track (panel m n a) s t l → Track (panel m n b) s t l
  track_same r = widen cell_same r

-- what every call tests of a panel, and of an order
module _ (m n a b : ℕ) (u : good_pitch (panel m n a) ≡ true) (v : good_pitch (panel m n b) ≡ true) where
  panel_same : check_panel (panel m n a) ≡ check_panel (panel m n b)
  panel_same = ap (λ (k : Bool). expect (good_sides (panel m n a)) Side (expect k Pitch (Ok tt))) (u ∙ sym v)

  pub order_same : (s t : Cell) → check_order (panel m n a) s t ≡ check_order (panel m n b) s t
  order_same s t =
      let p = panel m n a in
      let rest = expect (on_panel p t) ExitOff (Ok tt) in
      ap (λ (k : Check). after (after k (expect (on_panel p s) EntryOff (Ok tt))) rest) panel_same
