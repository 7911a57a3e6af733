-- A corner track from (1, 1) to a neighbour of it in the whole panel is a longest closed track: its count is mn, or mn − 1 if mn is odd, and a closed
-- track has an even number of cells, at most mn.
use Rattle.std.specs.Prelude.{Ok}
use Prim.Native.Nat.{ℕ, ◌+◌, ◌-◌, ◌*◌, ◌/◌, ◌%◌, ◌≤◌}
use mathlib.Core.Path.{◌≡◌, sym, ap, ◌∙◌, subst}
use mathlib.Core.Bool.{cond}
use mathlib.Core.List.{List}
use native.Mathlib.Omega.{arith}
use native.Mathlib.Nat.{mul-le-mul}
use lib.ListN.{length, drop}
use borrow.Author.Tests.{eq-eqb, ne_eqb}
use Rattle.grid.specs.declared.Panel.{Panel}
use Rattle.grid.specs.declared.Cell.{Cell}
use Rattle.grid.specs.declared.Cells.{Cells}
use Rattle.grid.specs.Panel.{cell, area, OnPanel, dist, apart, Neighbours}
use Rattle.grid.specs.Bytes.{front}
use Rattle.grid.proofs.Facts.{beside_sym}
use Rattle.grid.proofs.Track.{widen}
use Rattle.grid.proofs.Answers.{gives_cells}
use Rattle.grid.proofs.Tests.{cond_yes, cond_no, answer_good}
use Rattle.line.specs.Rectangle.{Inside}
use Rattle.corner.specs.Corner.{track_count, corner_count}
use Rattle.corner.specs.Cells.{corner_cells}
use Rattle.corner.specs.Drawn.{Ready}
use Rattle.line.specs.Drawn.{written}
use Rattle.line.proofs.Drawn.{written_front, written_behind}
use Rattle.line.proofs.Between.{Between, dist_up, by_eq}
use Rattle.corner.proofs.Count.{count_full}
use Rattle.corner.proofs.Track.{corner_track, length_corner}
use Rattle.line.proofs.Frame.{inside, inside_x, inside_y}
use Rattle.count.specs.Count.{odd}
use Rattle.count.proofs.Colour.{closed_no_longer}
use Rattle.ring.specs.Ring.{ring_count, ring_check, LongestClosed, Rings}
use Rattle.ring.proofs.Passed.{Passed, passed}

-- the track's first cell and the panel's far corner
abbrev pub first : Cell
first = cell 1 1

abbrev pub far : Panel → Cell
far p = cell p.width p.height

-- mn, or mn − 1 if mn is odd: mn without its remainder by 2, and as a sum
pub even_part : (a k : ℕ) → k + a % 2 ≡ a → k ≡ cond (odd a) (a - 1) a
even_part a k h = by_eq (a % 2) 1 (λ e. cond_yes _ _ (eq-eqb _ _ e) (omega arith)) (λ e. cond_no _ _ (ne_eqb _ _ e) (omega arith))

ring_sum : (a : ℕ) → 1 ≤ a → a - 1 + (a + 1) % 2 ≡ cond (odd a) (a - 1) a
ring_sum a h = even_part a _ (omega arith)

-- a track of the whole panel to a neighbour t of its first cell
module _ (p : Panel) (old : List ℕ) (fine : ring_check p (length old) ≡ Ok tt) (t : Cell) (o : OnPanel p t) (n : Neighbours t first) where
  g : Passed p (length old)
  g = passed p (length old) fine

  side : (k : ℕ) → 2 ≤ k → dist 1 k + 1 ≡ k
  side k h = let l : 1 ≤ k = omega arith in dist_up l

  all : 2 * 2 ≤ area p
  all = mul-le-mul g.wide g.high

  one : dist 1 t.x + dist 1 t.y ≡ 1
  unfolding apart
  one = (beside_sym n).one

  count_is : track_count first (far p) t ≡ ring_count p
  unfolding track_count
  count_is =
      (λ j. corner_count (side p.width g.wide j) (side p.height g.high j) (dist 1 t.x) (dist 1 t.y))
      ∙ count_full _ _ (dist 1 t.x) (dist 1 t.y) (omega (arith, one)) (omega (arith, g.wide)) (omega (arith, g.high))
      ∙ ap (λ (k : ℕ). area p - 1 + (area p + k) % 2) one
      ∙ ring_sum (area p) (omega (arith, all))

  pub ready : Ready first (far p) t old
  ready = record {
    corner = record { across = omega arith; down = omega arith };
    opposite = record { across = omega (arith, g.sides.widest); down = omega (arith, g.sides.highest) };
    inside = inside (Between.up o.left o.right) (Between.up o.top o.bottom);
    room = omega (arith, count_is, g.room);
  }

  four : 4 ≤ ring_count p
  four = least (area p) all
    where
      least : (a : ℕ) → 4 ≤ a → 4 ≤ cond (odd a) (a - 1) a
      least a h = let e = ring_sum a (omega arith) in omega arith

  most : (a : ℕ) → 1 ≤ a → a / 2 * 2 ≤ cond (odd a) (a - 1) a
  most a h = let e = ring_sum a h in omega arith

  -- a cell of the whole rectangle is on the panel
  on_panel_lem : (c : Cell) → Inside first (far p) c → OnPanel p c
  on_panel_lem c k =
      let x = up (inside_x k) (omega (arith, g.wide)) in
      let y = up (inside_y k) (omega (arith, g.high)) in
      record { left = x.0; right = x.1; top = y.0; bottom = y.1 }
    where
      up : {q r : ℕ} → Between 1 q r → 1 ≤ q → (1 ≤ r) × (r ≤ q)
      up (Between.up l h) k = (l, h)
      up (Between.down l h) k = (omega arith, omega arith)

  -- the cells written, read from the front of the buffer
  longest : {k : ℕ} {new : List ℕ} → k ≡ ring_count p → new ≡ written (corner_cells first (far p) t) (track_count first (far p) t) old
      → LongestClosed p k (front k new) × (drop (2 * k) new ≡ drop (2 * k) old)
  longest {k} {new} q w =
      let l = corner_cells first (far p) t in
      let e : k ≡ track_count first (far p) t = q ∙ sym count_is in
      let s : length l ≡ k = length_corner first (far p) t ready.inside ∙ sym e in
      let v : new ≡ written l k old = w ∙ ap (λ (i : ℕ). written l i old) (sym e) in (
        subst (LongestClosed p k) (sym (written_front l old s v)) (record {
          closed = record {
            last = t;
            track = widen on_panel_lem (corner_track first (far p) t ready.inside);
            closes = n;
            four = omega (arith, s, q, four);
          };
          size = s;
          longest = λ c m z. omega (arith, closed_no_longer p z, most (area p) (omega (arith, all)), e, count_is);
        }),
        written_behind l old s v,
      )

  pub drawn : {k : Cells} {new : List ℕ} → k.0 ≡ track_count first (far p) t
      → new ≡ written (corner_cells first (far p) t) (track_count first (far p) t) old → Rings p old new (Ok k)
  drawn e w =
      let q = e ∙ count_is in
      record { gives = gives_cells _ _ (answer_good _ _ fine (λ i. Ok (record { 0 = q i }))); leaves = longest q w }

  -- the same for an answer j that is made in another way, from the track's count k or from the ring's
  pub answered : {k j : Cells} {new : List ℕ} → k.0 ≡ track_count first (far p) t
      → new ≡ written (corner_cells first (far p) t) (track_count first (far p) t) old → (k.0 ≡ ring_count p → j.0 ≡ k.0) → Rings p old new (Ok j)
  answered e w same = drawn (same (e ∙ count_is) ∙ e) w
