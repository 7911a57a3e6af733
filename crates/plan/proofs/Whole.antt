-- "No longer track exists between the terminals", apart from any code, for any two cells of a panel: a track with exactly the order's count of
-- cells exists, and no track has more. For different cells it is Theorem 4.1, for equal ones the one cell.
use mathlib.Core.Path.{◌≡◌, refl, subst}
use mathlib.Core.List.{List, [], ◌∷◌}
use lib.ListN.{length}
use Rattle.grid.specs.declared.Panel.{Panel}
use Rattle.grid.specs.declared.Cell.{Cell}
use Rattle.grid.specs.Panel.{OnPanel}
use Rattle.grid.specs.Track.{Track}
use Rattle.grid.proofs.Track.{single}
use Rattle.count.specs.declared.ClassCount.{ClassCount}
use Rattle.count.specs.Order.{order_count}
use Rattle.count.specs.Longest.{Longest}
use Rattle.count.proofs.Terminals.{by_terminals, none_longer}
use Rattle.plan.proofs.Theorem.{reached}

-- the longest tracks from s to t have the order's count of cells
pub any_two : (p : Panel) (s t : Cell) → OnPanel p s → OnPanel p t → (l : List Cell) × Longest p s t (order_count p s t) l
any_two p s t os ot =
    let (l, (track, size)) =
    by_terminals (λ (f : ClassCount). (l : List Cell) × (Track p s t l × (length l ≡ f.count.0))) p s t
    (λ e. (s ∷ [], (subst (λ (c : Cell). Track p s c (s ∷ [])) e (single os), refl)))
    (λ d. reached p s t os ot d) in
    (l, record { size = size; track = track; none_longer = none_longer p s t })
