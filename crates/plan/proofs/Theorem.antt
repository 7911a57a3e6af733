-- Theorem 4.1 of document 000, apart from any code: between two different cells of a panel a track with exactly the count's cells exists, and
-- no track has more.
use mathlib.Core.Path.{◌≡◌}
use mathlib.Core.Logic.{◌≢◌}
use mathlib.Core.List.{List}
use lib.ListN.{length}
use Rattle.grid.specs.declared.Panel.{Panel}
use Rattle.grid.specs.declared.Cell.{Cell}
use Rattle.grid.specs.Panel.{OnPanel}
use Rattle.grid.specs.Track.{Track}
use Rattle.count.specs.Count.{count}
use Rattle.count.specs.Longest.{Longest}
use Rattle.count.proofs.AtMost.{no_longer}
use Rattle.plan.proofs.Wide.{plan_good}
use Rattle.plan.proofs.Chain.{plan_track, length_plan}

pub reached : (p : Panel) (s t : Cell) → OnPanel p s → OnPanel p t → s ≢ t → (l : List Cell) × (Track p s t l × (length l ≡ count p s t))
reached p s t os ot d = let h = plan_good p s t os ot d in (_, (plan_track h, length_plan h))

-- the longest tracks from s to t have count p s t cells
pub theorem_4_1 : (p : Panel) (s t : Cell) → OnPanel p s → OnPanel p t → s ≢ t → (l : List Cell) × Longest p s t (count p s t) l
theorem_4_1 p s t os ot d =
    let (l, (track, size)) = reached p s t os ot d in
    (l, record { size = size; track = track; none_longer = no_longer p s t d })
