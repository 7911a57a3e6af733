-- Class and count by their lines: the terminals are named by x, and a tall panel is turned. What holds of the lines is carried over.
use Prim.Native.Nat.{◌≤◌}
use native.Mathlib.Omega.{arith}
use lib.Dec.{ltb}
use borrow.Author.Tests.{ltb-true, ltb-false}
use Rattle.grid.specs.declared.Panel.{Panel}
use Rattle.grid.specs.declared.Cell.{Cell}
use Rattle.grid.specs.Panel.{turned, turned_cell}
use Rattle.grid.proofs.Tests.{both_branches}
use Rattle.count.specs.declared.ClassCount.{ClassCount}
use Rattle.count.specs.Count.{decided, named, class_count}

-- what holds of the lines for the terminals under either naming holds of the named terminals
over_names : (P : ClassCount → Type 0) (p : Panel) (s t : Cell)
    → (s.x ≤ t.x → P (decided p s t)) → (t.x ≤ s.x → P (decided p t s)) → P (named p s t)
unfolding named
over_names P p s t f g =
    both_branches P (ltb t.x s.x) _ _ (λ e. let k = ltb-true t.x s.x e in g (omega arith)) (λ e. f (ltb-false t.x s.x e))

-- what holds of the lines, for a panel that is not tall and terminals named by x, holds of class and count, if it may be carried over to
-- exchanged terminals and to the panel turned
pub over_lines : (P : Panel → Cell → Cell → ClassCount → Type 0)
    → ((p : Panel) (s t : Cell) → p.height ≤ p.width → s.x ≤ t.x → P p s t (decided p s t))
    → ((p : Panel) (s t : Cell) (f : ClassCount) → P p t s f → P p s t f)
    → ((p : Panel) (s t : Cell) (f : ClassCount) → P (turned p) (turned_cell s) (turned_cell t) f → P p s t f)
    → (p : Panel) (s t : Cell) → P p s t (class_count p s t)
unfolding class_count
over_lines P line swap turn p s t =
    both_branches (P p s t) (ltb p.width p.height) _ _
    (λ e. let h = ltb-true p.width p.height e in turn p s t _ (wide (turned p) (turned_cell s) (turned_cell t) (omega arith)))
    (λ e. wide p s t (ltb-false p.width p.height e))
  where
    wide : (p : Panel) (s t : Cell) → p.height ≤ p.width → P p s t (named p s t)
    wide p s t h = over_names (P p s t) p s t (line p s t h) (λ k. swap p s t _ (line p t s h k))
