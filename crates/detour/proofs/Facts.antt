-- The tests of an edit as facts, and the other way round; and what holds of an edit because it holds of bulges and of presses.
use Prim.Native.Nat.{ℕ, ◌+◌, ◌≤◌}
use mathlib.Core.Path.{◌≡◌}
use mathlib.Core.Bool.{Bool, true, ◌&&◌}
use mathlib.Core.List.{List}
use lib.Dec.{leb}
use lib.ListN.{length}
use borrow.Author.Tests.{leb-true, le-leb}
use Rattle.grid.specs.declared.Panel.{Panel}
use Rattle.grid.specs.declared.Cell.{Cell}
use Rattle.grid.specs.Panel.{Neighbours}
use Rattle.grid.proofs.Facts.{and_parts, and_both, next, is_next, same_eq, eq_same}
use Rattle.detour.specs.declared.Kind.{Kind}
use Rattle.detour.specs.declared.Kind.TheVariants.{Bulge, Press}
use Rattle.detour.specs.declared.Side.{Side}
use Rattle.detour.specs.declared.Edit.{Edit}
use Rattle.detour.specs.Detour.{cell_beside, cell_no, bulged, pressed, is_free, can_bulge, is_detour, edited, can_edit, of_kind}

-- what both tests begin with: a place from 1 on, and a place j in a list of m cells
module _ (k j m : ℕ) (b : Bool) where
  placed : (leb 1 k && (leb j m && b)) ≡ true → (1 ≤ k) × (j ≤ m) × (b ≡ true)
  placed e =
      let (low, rest) = and_parts (leb 1 k) (leb j m && b) e in
      let (high, last) = and_parts (leb j m) b rest in
      (leb-true 1 k low, leb-true j m high, last)

  is_placed : 1 ≤ k → j ≤ m → b ≡ true → (leb 1 k && (leb j m && b)) ≡ true
  is_placed low high e = and_both (le-leb 1 k low) (and_both (le-leb j m high) e)

-- a bulge can be made: the step is there, and both cells of its detour are free
pub record CanBulge (p : Panel) (side : Side) (k : ℕ) (l : List Cell) : Type 0 where
  pub low : 1 ≤ k
  pub high : k + 1 ≤ length l
  pub first : is_free p l (cell_beside side (cell_no l k) (cell_no l (k + 1)) (cell_no l k)) ≡ true
  pub second : is_free p l (cell_beside side (cell_no l k) (cell_no l (k + 1)) (cell_no l (k + 1))) ≡ true

-- a press can be made: four cells are there, the outer two neighbours, the inner two the detour of the step from the one to the other
pub record IsDetour (side : Side) (k : ℕ) (l : List Cell) : Type 0 where
  pub low : 1 ≤ k
  pub high : k + 3 ≤ length l
  pub step : Neighbours (cell_no l k) (cell_no l (k + 3))
  pub first : cell_no l (k + 1) ≡ cell_beside side (cell_no l k) (cell_no l (k + 3)) (cell_no l k)
  pub second : cell_no l (k + 2) ≡ cell_beside side (cell_no l k) (cell_no l (k + 3)) (cell_no l (k + 3))

module _ (p : Panel) (side : Side) (k : ℕ) (l : List Cell) where
  pub bulge : can_bulge p side k l ≡ true → CanBulge p side k l
  bulge e =
      let (low, high, free) = placed k (k + 1) (length l) _ e in
      let (first, second) = and_parts _ _ free in
      record { low = low; high = high; first = first; second = second }

pub is_bulge : {p : Panel} {side : Side} {k : ℕ} {l : List Cell} → CanBulge p side k l → can_bulge p side k l ≡ true
is_bulge {k = k} {l = l} c = is_placed k (k + 1) (length l) _ c.low c.high (and_both c.first c.second)

module _ (side : Side) (k : ℕ) (l : List Cell) where
  pub press : is_detour side k l ≡ true → IsDetour side k l
  press e =
      let (low, high, square) = placed k (k + 3) (length l) _ e in
      let (step, cells) = and_parts _ _ square in
      let (first, second) = and_parts _ _ cells in
      record { low = low; high = high; step = next step; first = same_eq _ _ first; second = same_eq _ _ second }

pub is_press : {side : Side} {k : ℕ} {l : List Cell} → IsDetour side k l → is_detour side k l ≡ true
is_press {k = k} {l = l} c =
    is_placed k (k + 3) (length l) _ c.low c.high (and_both (is_next c.step) (and_both (eq_same c.first) (eq_same c.second)))

-- what holds of every bulge and of every press holds of an edit; P is given its kind, and the list after it
pub by_kind : (p : Panel) (e : Edit) (l : List Cell) (P : Kind → List Cell → Type 0)
    → (CanBulge p e.side e.place l → P Bulge (bulged e.side e.place l))
    → (IsDetour e.side e.place l → P Press (pressed e.place l))
    → can_edit p e l ≡ true → P e.kind (edited e l)
by_kind p e l P f g can = by e.kind can
  where
    by : (b : Kind) → of_kind b (can_bulge p e.side e.place l) (is_detour e.side e.place l) ≡ true
        → P b (of_kind b (bulged e.side e.place l) (pressed e.place l))
    by Bulge c = f (bulge p e.side e.place l c)
    by Press c = g (press e.side e.place l c)
