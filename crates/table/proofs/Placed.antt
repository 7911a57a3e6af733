-- A row placed on the panel is the row's track turned, mirrored and perhaps reversed, and so a track.
use Prim.Native.Nat.{ℕ, zero, suc, ◌+◌, ◌-◌, ◌*◌, ◌≤◌, ◌<◌}
use mathlib.Core.Path.{◌≡◌, refl, sym, ap, ◌∙◌, subst, subst₂}
use mathlib.Core.Bool.{Bool, true, false}
use mathlib.Core.Logic.{◌≢◌}
use mathlib.Core.List.{List, ◌∷◌, ◌++◌, map, reverse}
use native.Mathlib.Omega.{arith}
use lib.ListN.{length, drop}
use Rattle.grid.specs.declared.Cell.{Cell}
use Rattle.grid.specs.Panel.{panel, OnPanel, dist, apart}
use Rattle.grid.specs.Track.{Track}
use Rattle.grid.specs.Bytes.{bytes}
use Rattle.grid.proofs.Facts.{cell_eq}
use Rattle.grid.proofs.Track.{backwards}
use Rattle.grid.proofs.Moves.{Move, moved, turning}
use Rattle.line.specs.Line.{line}
use Rattle.line.proofs.Line.{length_line, line_back}
use Rattle.count.specs.Count.{count}
use Rattle.table.specs.declared.Placing.{Placing}
use Rattle.list.specs.List.{with_cells}
use Rattle.table.specs.Order.{ReadyOrder}
use Rattle.table.specs.Table.{row_size, row_cell, turn_if, mirror, mirror_cell, place, position, placed_cell, placing, UpToFour, tabled}
use Rattle.table.proofs.Rows.{three, row_track, row_some, row_x, row_y, Found, found}

abbrev On : Cell → Type 0
On = OnPanel three

-- ---- turned and mirrored

mirror_low : (b : Bool) (a : ℕ) → a ≤ 3 → 1 ≤ a → 1 ≤ mirror b a
mirror_low true a h l = omega arith
mirror_low false a h l = l

mirror_high : (b : Bool) (a : ℕ) → a ≤ 3 → 1 ≤ a → mirror b a ≤ 3
mirror_high true a h l = omega arith
mirror_high false a h l = h

mirror_undo : (b : Bool) (a : ℕ) → a ≤ 3 → mirror b (mirror b a) ≡ a
mirror_undo true a h = omega arith
mirror_undo false a h = refl

mirror_dist : (b : Bool) (a c : ℕ) → a ≤ 3 → c ≤ 3 → dist (mirror b a) (mirror b c) ≡ dist a c
unfolding dist
mirror_dist true a c h k = omega arith
mirror_dist false a c h k = refl

mirroring : (x y : Bool) → Move On On (mirror_cell x y)
unfolding apart
mirroring x y = record {
  into = λ c o. record {
    left = mirror_low x c.x o.right o.left;
    right = mirror_high x c.x o.right o.left;
    top = mirror_low y c.y o.bottom o.top;
    bottom = mirror_high y c.y o.bottom o.top;
  };
  keeps = λ a b p q h. record {
    one =
        (λ i. mirror_dist x a.x b.x p.right q.right i + mirror_dist y a.y b.y p.bottom q.bottom i)
        ∙ h.one;
  };
  back = mirror_cell x y;
  undo = λ c o. cell_eq (mirror_undo x c.x o.right) (mirror_undo y c.y o.bottom);
}

turning_if : (b : Bool) → Move On On (turn_if b)
turning_if true = turning three
turning_if false = record { into = λ c o. o; keeps = λ a b p q h. h; back = λ c. c; undo = λ c o. refl }

after : {A B C : Cell → Type 0} {f g : Cell → Cell} → Move A B f → Move B C g → Move A C (λ c. g (f c))
after {f = f} m n = record {
  into = λ c o. n.into _ (m.into c o);
  keeps = λ a b p q h. n.keeps _ _ (m.into a p) (m.into b q) (m.keeps a b p q h);
  back = λ c. m.back (n.back c);
  undo = λ c o. ap m.back (n.undo (f c) (m.into c o)) ∙ m.undo c o;
}

moving : (p : Placing) → Move On On (place p)
moving p = after (turning_if p.turn) (mirroring p.across p.down)

-- ---- walked from its end

map_line : (h : Cell → Cell) (f : ℕ → Cell) (n : ℕ) → map h (line f n) ≡ line (λ i. h (f i)) n
map_line h f zero = refl
map_line h f (suc n) = ap (λ (l : List Cell). h (f 0) ∷ l) (map_line h (λ i. f (suc i)) n)

-- the row's cells in the order in which they are written
abbrev ordered : ℕ → Bool → ℕ → Cell
ordered k b i = row_cell k (position b (row_size k) i)

ordered_track : (k : ℕ) → k < 8 → (b : Bool) → Track three (ordered k b 0) (ordered k b (row_size k - 1)) (line (ordered k b) (row_size k))
ordered_track k h false = row_track k h
ordered_track k h true =
    subst (λ (l : List Cell). Track three (row_cell k (n - (0 + 1))) (row_cell k (n - (n - 1 + 1))) l) (line_back (row_cell k) n)
    (subst₂ (λ (a b : ℕ). Track three (row_cell k a) (row_cell k b) (reverse (line (row_cell k) n))) one all (backwards (row_track k h)))
  where
    n : ℕ
    n = row_size k

    one : n - 1 ≡ n - (0 + 1)
    one = omega arith

    all : 0 ≡ n - (n - 1 + 1)
    all = omega (arith, row_some k h)

-- ---- what is drawn

module _ {s t : Cell} {p : Placing} (f : Found s t p) where
  placed_track : Track three s t (line (placed_cell p) (row_size p.row))
  placed_track =
      let k = p.row in
      let n = row_size k in
      subst₂ (λ (a b : Cell). Track three a b (line (placed_cell p) n)) f.first f.last
      (subst (λ (l : List Cell). Track three (placed_cell p 0) (placed_cell p (n - 1)) l) (map_line (place p) (ordered k p.back) n)
      (moved (moving p) (ordered_track k f.row p.back)))

-- the row that is found for two different cells
module _ (s t : Cell) (os : OnPanel three s) (ot : OnPanel three t) (d : s ≢ t) where
  pub tabled_track : Track three s t (tabled s t)
  unfolding tabled
  tabled_track = placed_track (found s t os ot d)

  pub length_tabled : length (tabled s t) ≡ count three s t
  unfolding tabled
  length_tabled = length_line (placed_cell (placing s t)) (row_size (placing s t).row) ∙ (found s t os ot d).size

-- ---- as the code has it

module _ {s t : Cell} {buf : List ℕ} (o : (q : ℕ) → ReadyOrder (panel 3 3 q) s t buf) {q : Placing} (e : q ≡ placing s t) where
  pub found_here : Found s t q
  found_here = subst (λ (q : Placing). Found s t q) (sym e) (found s t (o 4000).entry (o 4000).exit (o 4000).differ)

  pub row_fits : 2 * row_size q.row ≤ length buf
  row_fits = omega (arith, found_here.size, (o 4000).room)

  pub drawn_here : {new : List ℕ} → new ≡ bytes (line (placed_cell q) (row_size q.row)) ++ drop (2 * row_size q.row) buf
      → new ≡ with_cells (tabled s t) buf
  unfolding tabled
  drawn_here w =
      let l = line (placed_cell q) (row_size q.row) in
      w ∙ ap (λ (k : ℕ). bytes l ++ drop (2 * k) buf) (sym (length_line (placed_cell q) (row_size q.row)))
      ∙ (λ i. with_cells (line (placed_cell (e i)) (row_size (e i).row)) buf)

-- mirrored and turned cells stay small
mirror_small : (on : Bool) (a : ℕ) → a ≤ 4 → mirror on a ≤ 4
mirror_small true a h = omega arith
mirror_small false a h = h

pub mirrored_small : (x y : Bool) (c : Cell) {v : Cell} → v ≡ mirror_cell x y c → UpToFour c → UpToFour v
mirrored_small x y c e (h, k) = subst UpToFour (sym e) (mirror_small x c.x h, mirror_small y c.y k)

pub turned_small : (b : Bool) (c : Cell) {v : Cell} → v ≡ turn_if b c → UpToFour c → UpToFour v
turned_small true c e (h, k) = subst UpToFour (sym e) (k, h)
turned_small false c e h = subst UpToFour (sym e) h

-- the place of a cell is in its row
pub in_row : {j : ℕ} (back : Bool) (n i : ℕ) → j ≡ position back n i → i < n → n ≤ 9 → j < 9
in_row true n i e h k = omega arith
in_row false n i e h k = omega arith

-- v is the cell j of the row as it is placed
module _ (p : Placing) {u v : Cell} {j : ℕ} (e : u ≡ row_cell p.row j) (f : v ≡ place p u) where
  pub placed_small : p.row < 8 → j < 9 → UpToFour v
  placed_small h i =
      let x = row_x p.row h j i in
      let y = row_y p.row h j i in
      let small : UpToFour u = subst UpToFour (sym e) (omega arith, omega arith) in
      mirrored_small p.across p.down (turn_if p.turn u) f (turned_small p.turn u refl small)

  pub placed_at : {n : ℕ} (i : ℕ) → j ≡ position p.back n i → n ≡ row_size p.row → v ≡ placed_cell p i
  placed_at i g h = f ∙ ap (place p) (e ∙ ap (row_cell p.row) (g ∙ ap (λ (n : ℕ). position p.back n i) h))
