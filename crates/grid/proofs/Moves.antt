-- A track moved by a map of cells that keeps neighbours and can be undone is a track: turning, mirroring in x and in y are such maps.
use Prim.Native.Nat.{ℕ, ◌%◌}
use mathlib.Core.Path.{◌≡◌, refl, sym, ap, ◌∙◌}
use mathlib.Core.Logic.{◌≢◌}
use mathlib.Core.List.{List, map}
use native.Mathlib.Nat.{add_comm}
use lib.Dec.{eqb}
use Rattle.grid.specs.declared.Panel.{Panel}
use Rattle.grid.specs.declared.Cell.{Cell}
use Rattle.grid.specs.Panel.{OnPanel, Neighbours, apart, dist, black, turned, turned_cell}
use Rattle.grid.specs.Track.{Walk, All, Once, TrackIn}

-- f takes the cells of A to cells of B, keeps neighbours there, and g undoes it
pub record Move (A B : Cell → Type 0) (f : Cell → Cell) : Type 0 where
  pub into : (c : Cell) → A c → B (f c)
  pub keeps : (a b : Cell) → A a → A b → Neighbours a b → Neighbours (f a) (f b)
  pub back : Cell → Cell
  pub undo : (c : Cell) → A c → back (f c) ≡ c

module _ {A B : Cell → Type 0} {f : Cell → Cell} (m : Move A B f) where
  all_moved : {l : List Cell} → All A l → All B (map f l)
  all_moved All.none = All.none
  all_moved (All.more p a) = All.more (m.into _ p) (all_moved a)

  apart_moved : {c : Cell} {l : List Cell} → A c → All A l → All (λ d. c ≢ d) l → All (λ d. f c ≢ d) (map f l)
  apart_moved p All.none All.none = All.none
  apart_moved p (All.more {c = d} q a) (All.more n h) = All.more (λ e. n (sym (m.undo _ p) ∙ ap m.back e ∙ m.undo d q)) (apart_moved p a h)

  once_moved : {l : List Cell} → All A l → Once l → Once (map f l)
  once_moved All.none Once.none = Once.none
  once_moved (All.more p a) (Once.more h o) = Once.more (apart_moved p a h) (once_moved a o)

  walk_moved : {s t : Cell} {l : List Cell} → All A l → Walk s t l → Walk (f s) (f t) (map f l)
  walk_moved a Walk.end = Walk.end
  walk_moved (All.more p a) (Walk.step {b = b} n w) = Walk.step (m.keeps _ b p (first a w) n) (walk_moved a w)
    where
      first : {u v : Cell} {k : List Cell} → All A k → Walk u v k → A u
      first All.none w = elim w [ ]
      first (All.more q r) Walk.end = q
      first (All.more q r) (Walk.step x y) = q

  pub moved : {s t : Cell} {l : List Cell} → TrackIn A s t l → TrackIn B (f s) (f t) (map f l)
  moved r = record { walk = walk_moved r.within r.walk; once = once_moved r.within r.once; within = all_moved r.within }

-- ---- turning

turn_beside : (a b : Cell) → Neighbours a b → Neighbours (turned_cell a) (turned_cell b)
unfolding apart
turn_beside a b h = record { one = add_comm (dist a.y b.y) (dist a.x b.x) ∙ h.one }

pub turn_on : {p : Panel} {c : Cell} → OnPanel p c → OnPanel (turned p) (turned_cell c)
turn_on o = record { left = o.top; right = o.bottom; top = o.left; bottom = o.right }

pub turning : (p : Panel) → Move (OnPanel p) (OnPanel (turned p)) turned_cell
turning p = record { into = λ c o. turn_on o; keeps = λ a b p q h. turn_beside a b h; back = turned_cell; undo = λ c o. refl }

-- a cell keeps its colour
pub black_turned : (c : Cell) → black (turned_cell c) ≡ black c
black_turned c = ap (λ (k : ℕ). eqb (k % 2) 1) (add_comm c.y c.x)
