-- How many cells a track can have, by the colour that it begins with; and that nothing fits where more are wanted.
use Rattle.std.specs.Prelude.{None}
use Prim.Native.Nat.{◌≤◌, ◌<◌}
use mathlib.Core.Path.{◌≡◌, ap, ◌∙◌}
use mathlib.Core.Bool.{true}
use mathlib.Core.Logic.{◌≢◌}
use mathlib.Core.List.{List}
use native.Mathlib.Omega.{arith}
use lib.ListN.{length}
use Rattle.grid.specs.declared.Panel.{Panel}
use Rattle.grid.specs.declared.Cell.{Cell}
use Rattle.grid.specs.declared.Cells.{Cells}
use Rattle.grid.specs.Panel.{OnPanel, black}
use Rattle.grid.specs.Track.{Track}
use Rattle.grid.proofs.Facts.{test_fails}
use Rattle.grid.proofs.Tests.{both_branches}
use Rattle.count.proofs.Pigeon.{at_most_area}
use Rattle.count.proofs.Colour.{bit, black_bit, walk_black, at_most_black}
use Rattle.exit.specs.Exit.{fits, first_fit}
use Rattle.exit.specs.Most.{most}
use Rattle.exit.proofs.Reading.{none_first}
use Rattle.exit.proofs.Fitting.{fit_exit}

-- no track from s is longer, wherever it ends
pub at_most : (p : Panel) {s t : Cell} {l : List Cell} → Track p s t l → length l ≤ most p s
at_most p {s} {t} {l} r =
    both_branches (λ k. length l ≤ k) (black s) _ _
    (λ b. omega (arith, black_bit s ∙ ap bit b, walk_black r.walk, at_most_black p r.once r.within))
    (λ w. omega (arith, at_most_area p r.once r.within))

pub none_above : (p : Panel) (s : Cell) (w : Cells) → OnPanel p s → most p s < w.0 → None ≡ first_fit p s w
none_above p s w os h = none_first (fits p s w) p (λ d o. test_fails (fits p s w d) (too_long d o))
  where
    too_long : (d : Cell) → OnPanel p d → fits p s w d ≢ true
    too_long d o e = let x = fit_exit p s w d os o e in omega (arith, h, x.enough, at_most p x.track)
