-- Legs drawn one after the other: a prefix is written, then the rest of the buffer is lent to the next drawing. One law serves every number of legs.
use Prim.Native.Nat.{ℕ, ◌+◌, ◌-◌, ◌*◌, ◌≤◌, ◌<◌}
use mathlib.Core.Path.{◌≡◌, refl, sym, ap, ◌∙◌, subst}
use mathlib.Core.List.{List, [], ◌∷◌, ◌++◌, append_assoc}
use native.Mathlib.Omega.{arith}
use lib.ListN.{length, take, drop, get_or, length-append, take-append-drop}
use borrow.Rule.Slice.PartMut.{put_mid}
use Rattle.grid.specs.declared.Cell.{Cell}
use Rattle.grid.specs.declared.Cells.{Cells}
use Rattle.grid.specs.Bytes.{bytes}
use Rattle.grid.proofs.Lists.{take_next}
use Rattle.line.specs.Rectangle.{Inside}
use Rattle.line.proofs.Drawn.{part_behind, part_long, written_long}
use Rattle.corner.proofs.First.{track_most}
use Rattle.plan.specs.declared.Leg.{Leg}
use Rattle.plan.specs.Leg.{total, leg_cells, legs_cells}
use Rattle.plan.specs.Drawing.{Each, Drawable, Room, Written}
use Rattle.plan.proofs.Chain.{total_append, length_legs}

-- a leg's corners are bytes, so that its cells are at most 256 by 256
legs_most : {l : List Leg} → Each Drawable l → total l ≤ 65536 * length l
legs_most Each.none = omega arith
legs_most (Each.more d e) = omega (arith, track_most d.corner d.opposite d.inside, legs_most e)

each_first : {P : Leg → Type 0} (l k : List Leg) → Each P (l ++ k) → Each P l
each_first [] k e = Each.none
each_first (g ∷ l) k (Each.more p e) = Each.more p (each_first l k e)

each_rest : {P : Leg → Type 0} (l k : List Leg) → Each P (l ++ k) → Each P k
each_rest [] k e = e
each_rest (g ∷ l) k (Each.more p e) = each_rest l k e

cells_append : (l k : List Leg) → legs_cells (l ++ k) ≡ legs_cells l ++ legs_cells k
cells_append [] k = refl
cells_append (g ∷ l) k = ap (λ (c : List Cell). leg_cells g ++ c) (cells_append l k) ∙ sym (append_assoc (leg_cells g) (legs_cells l) (legs_cells k))

each_inside : {l : List Leg} → Each Drawable l → Each (λ g. Inside g.a g.b g.t) l
each_inside Each.none = Each.none
each_inside (Each.more d e) = Each.more d.inside (each_inside e)

-- the legs l are drawn
module _ {l : List Leg} {r : Cells} {old mid : List ℕ} (room : Room l old) (w : Written l r old mid) where
  size : length (legs_cells l) ≡ total l
  size = length_legs l (each_inside room.each)

  pub long : length mid ≡ length old
  long = written_long (legs_cells l) old size room.room w.content

-- the legs l are drawn, then the legs k behind them
module _ (l k : List Leg) {old : List ℕ} (room : Room (l ++ k) old) where
  pub room_first : Room l old
  room_first = record { each = each_first l k room.each; room = omega (arith, total_append l k, room.room) }

  module _ {r : Cells} {mid : List ℕ} (w : Written l r old mid) where
    fits : 2 * r.0 + 2 * total k ≤ length mid
    fits = omega (arith, total_append l k, room.room, w.count, long room_first w)

    pub start_fits : 2 * r.0 ≤ length mid
    start_fits = omega (arith, fits)

    pub room_rest : {at : ℕ} → at ≤ 2 * r.0 → Room k (take (length mid - at) (drop at mid))
    room_rest {at} h = record { each = each_rest l k room.each; room = omega (arith, fits, part_long mid at (omega (arith, h, start_fits))) }

    -- the sum of the cells is a 32-bit number
    pub sum_most : {q : Cells} → q.0 ≡ total k → r.0 + q.0 ≤ 65536 * (length l + length k)
    sum_most e = omega (arith, total_append l k, w.count, legs_most room.each, length-append l k)

    pub written_rest : {q n : Cells} {part : List ℕ} → Written k q (take (length mid - 2 * r.0) (drop (2 * r.0) mid)) part
        → n.0 ≡ r.0 + q.0 → Written (l ++ k) n old (put_mid (2 * r.0) (length mid - 2 * r.0) mid part)
    written_rest {q} {n} {part} v e = record {
      count = e ∙ (λ i. w.count i + v.count i) ∙ sym (total_append l k);
      content =
          part_behind (legs_cells l) (legs_cells k) old mid part (2 * r.0) (total k) first twice start_fits v.content
          ∙ (λ i. bytes (sym (cells_append l k) i) ++ drop (sum i) old);
    }
      where
        first : mid ≡ bytes (legs_cells l) ++ drop (2 * r.0) old
        first = w.content ∙ ap (λ (i : ℕ). bytes (legs_cells l) ++ drop (2 * i) old) (sym w.count)

        twice : 2 * length (legs_cells l) ≡ 2 * r.0
        twice = omega (arith, size room_first w, w.count)

        sum : 2 * r.0 + 2 * total k ≡ 2 * total (l ++ k)
        sum = omega (arith, w.count, total_append l k)

-- the first i legs of a list are drawn, then the next one, d standing for a leg that is not there
module _ (l : List Leg) {i : ℕ} (d : Leg) (there : i < length l) where
  pub room_next : {old : List ℕ} → Room l old → Room (take i l ++ (get_or l i d ∷ [])) old
  room_next {old} room =
      let whole = subst (λ (k : List Leg). Room k old) (sym (take-append-drop (i + 1) l)) room in
      subst (λ (k : List Leg). Room k old) (take_next d l i there) (room_first (take (i + 1) l) (drop (i + 1) l) whole)
