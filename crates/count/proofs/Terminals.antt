-- Any two terminals, equal or not: what the laws of class and count say of different cells, and what one cell is, put together. The laws of
-- different cells are cited as they stand.
use Prim.Native.Nat.{◌≤◌}
use native.Mathlib.Omega.{arith}
use mathlib.Core.Path.{◌≡◌, refl, sym, ap, subst, ◌∙◌}
use mathlib.Core.Logic.{◌≢◌, ◌↔◌}
use lib.ListN.{length}
use Rattle.grid.specs.declared.Panel.{Panel}
use Rattle.grid.specs.declared.Cell.{Cell}
use Rattle.grid.specs.Panel.{OnPanel, same_cell, turned, turned_cell}
use Rattle.grid.specs.Track.{Track}
use Rattle.grid.proofs.Facts.{same_eq, eq_same, same_ne, ne_same}
use Rattle.grid.proofs.Tests.{both_branches, cond_yes, cond_no}
use Rattle.grid.proofs.Track.{one_cell}
use Rattle.count.specs.declared.ClassCount.{ClassCount}
use Rattle.count.specs.Count.{area, found, class_count, count}
use Rattle.count.specs.Order.{order_class_count, order_class, order_count}
use Rattle.count.specs.Longest.{NoLonger}
use Rattle.count.proofs.Laws.{area_of_cell, bounds, class_small, either_order, turned_class, turned_count}
use Rattle.count.proofs.AtMost.{no_longer}

-- equal terminals are class 6
pub spot : (p : Panel) {s t : Cell} → s ≡ t → order_class_count p s t ≡ found 6 1
unfolding order_class_count
spot p e = sym (cond_yes _ _ (eq_same e) refl)

-- different ones have their class and count
pub differing : (p : Panel) {s t : Cell} → s ≢ t → order_class_count p s t ≡ class_count p s t
unfolding order_class_count
differing p {s} {t} d = sym (cond_no _ _ (ne_same s t d) refl)

-- and so their counts
pub spot_count : (p : Panel) {s t : Cell} → s ≡ t → order_count p s t ≡ 1
spot_count p e = ap (λ (f : ClassCount). f.count.0) (spot p e)

pub differing_count : (p : Panel) {s t : Cell} → s ≢ t → order_count p s t ≡ count p s t
differing_count p d = ap (λ (f : ClassCount). f.count.0) (differing p d)

-- what holds of class 6 for equal terminals, and of class and count for different ones, holds of every order
pub by_terminals : (P : ClassCount → Type 0) (p : Panel) (s t : Cell)
    → (s ≡ t → P (found 6 1)) → (s ≢ t → P (class_count p s t)) → P (order_class_count p s t)
unfolding order_class_count
by_terminals P p s t f g = both_branches P (same_cell s t) _ _ (λ e. f (same_eq s t e)) (λ e. g (same_ne s t e))

-- the classes are 1 to 6
pub order_class_small : (p : Panel) (s t : Cell) → order_class p s t ≤ 6
order_class_small p s t =
    by_terminals (λ (f : ClassCount). f.class ≤ 6) p s t (λ _. omega arith) (λ _. omega (arith, class_small p s t))

-- class 6 is that of equal terminals, and of no others
pub spot_class : (p : Panel) (s t : Cell) → (order_class p s t ≡ 6) ↔ (s ≡ t)
spot_class p s t = (
  by_terminals (λ (f : ClassCount). f.class ≡ 6 → s ≡ t) p s t (λ e _. e) (λ _ h. absurd (omega (arith, class_small p s t))),
  λ e. ap (λ (f : ClassCount). f.class) (spot p e),
)

-- 1 ≤ count ≤ mn
pub order_bounds : (p : Panel) (s t : Cell) → OnPanel p s → OnPanel p t → (1 ≤ order_count p s t) × (order_count p s t ≤ area p)
order_bounds p s t a b =
    by_terminals (λ (f : ClassCount). (1 ≤ f.count.0) × (f.count.0 ≤ area p)) p s t
    (λ _. omega (arith, area_of_cell p s a))
    (λ d. omega (arith, bounds p s t a b d))

-- the same class and count for the terminals in either order
pub order_either : (p : Panel) (s t : Cell) → order_class_count p s t ≡ order_class_count p t s
order_either p s t =
    by_terminals (λ (f : ClassCount). f ≡ order_class_count p t s) p s t
    (λ e. sym (spot p (sym e)))
    (λ d. either_order p s t ∙ sym (differing p (λ e. d (sym e))))

-- the same count for the panel turned, and the same class on every panel but 2 by 2
pub order_turned_count : (p : Panel) (s t : Cell) → OnPanel p s → OnPanel p t → order_count (turned p) (turned_cell s) (turned_cell t) ≡ order_count p s t
order_turned_count p s t a b =
    by_terminals (λ (f : ClassCount). order_count (turned p) (turned_cell s) (turned_cell t) ≡ f.count.0) p s t
    (λ e. spot_count (turned p) (ap turned_cell e))
    (λ d. differing_count (turned p) (λ e. d (ap turned_cell e)) ∙ turned_count p s t a b d)

pub order_turned_class : (p : Panel) (s t : Cell) → OnPanel p s → OnPanel p t → (p.width ≡ 2 → p.height ≢ 2)
    → order_class_count (turned p) (turned_cell s) (turned_cell t) ≡ order_class_count p s t
order_turned_class p s t a b two =
    by_terminals (λ (f : ClassCount). order_class_count (turned p) (turned_cell s) (turned_cell t) ≡ f) p s t
    (λ e. spot (turned p) (ap turned_cell e))
    (λ d. differing (turned p) (λ e. d (ap turned_cell e)) ∙ turned_class p s t a b d two)

-- no track between two cells, equal or not, has more cells than the count
pub none_longer : (p : Panel) (s t : Cell) → NoLonger p s t (order_count p s t)
none_longer p s t =
    by_terminals (λ (f : ClassCount). NoLonger p s t f.count.0) p s t
    (λ e l r. omega (arith, ap length (one_cell (subst (λ (c : Cell). Track p s c l) (sym e) r))))
    (λ d. no_longer p s t d)
