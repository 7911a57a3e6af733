-- Where two cells of a track with two others between them are neighbours, those two are the detour on one of the sides: a press can be made.
use Prim.Native.Nat.{ℕ, ◌+◌, ◌-◌, ◌≤◌, ◌<◌}
use native.Mathlib.Omega.{arith}
use mathlib.Core.Path.{◌≡◌, refl, sym, ap, ◌∙◌}
use mathlib.Core.Logic.{◌≢◌}
use mathlib.Core.Bool.{Bool, true, false, cond, ◌||◌, or-true, true≢false}
use mathlib.Core.List.{List}
use lib.ListN.{length, take}
use lib.Seq.{length-take-le, get_or-take}
use Rattle.grid.specs.declared.Panel.{Panel}
use Rattle.grid.specs.declared.Cell.{Cell}
use Rattle.grid.specs.Panel.{cell, Neighbours, neighbours}
use Rattle.grid.specs.Track.{Track}
use Rattle.grid.proofs.Facts.{next}
use Rattle.grid.proofs.Tests.{or_yes}
use Rattle.list.specs.List.{nth, among, none_twice}
use Rattle.list.proofs.Tracks.{is_once}
use Rattle.list.proofs.Indexed.{new_index, among_index}
use Rattle.detour.specs.declared.Side.TheVariants.{Left, Right}
use Rattle.detour.specs.Detour.{cell_no, is_detour, press_at, can_edit}
use Rattle.detour.proofs.Cut.{halves}
use Rattle.detour.proofs.Square.{AroundStep}
use Rattle.detour.proofs.Sides.{OnSide, on_side}
use Rattle.detour.proofs.Facts.{IsDetour, is_press}

-- two cells of a list without repeats
differ : (l : List Cell) (i j : ℕ) → none_twice l ≡ true → i < j → j < length l → nth l i ≢ nth l j
differ l i j e h m q =
    let short : i < length (take j l) = omega (arith, length-take-le j l (omega arith)) in
    true≢false (sym (among_index (take j l) i short) ∙ ap (λ (c : Cell). among c (take j l)) (get_or-take j l i (cell 0 0) h ∙ q) ∙ new_index l j e m)

-- a press is made on the side where the detour is, if on any
pub press_sides : (p : Panel) (k : ℕ) (l : List Cell) → can_edit p (press_at k l) l ≡ (is_detour Left k l || is_detour Right k l)
press_sides p k l = by (is_detour Left k l) refl
  where
    by : (b : Bool) → is_detour Left k l ≡ b → is_detour (cond b Left Right) k l ≡ (b || is_detour Right k l)
    by true e = e
    by false e = refl

module _ (p : Panel) (s t : Cell) (k : ℕ) (l : List Cell) (r : Track p s t l) (low : 1 ≤ k) (high : k + 3 ≤ length l) where
  -- the test passes for the side that the two cells are on
  detour_there : Neighbours (cell_no l k) (cell_no l (k + 3))
      → OnSide (cell_no l k) (cell_no l (k + 1)) (cell_no l (k + 2)) (cell_no l (k + 3)) → (is_detour Left k l || is_detour Right k l) ≡ true
  detour_there n (OnSide.on_left c d) =
      let f : IsDetour Left k l = record { low = low; high = high; step = n; first = c; second = d } in
      sym (or_yes (is_detour Right k l) (is_press f))
  detour_there n (OnSide.on_right c d) =
      let f : IsDetour Right k l = record { low = low; high = high; step = n; first = c; second = d } in
      (λ i. is_detour Left k l || is_press f i) ∙ or-true (is_detour Left k l)

  pub press_found : neighbours (cell_no l k) (cell_no l (k + 3)) ≡ true → can_edit p (press_at k l) l ≡ true
  press_found e =
      let n = next e in
      let two = differ l (k - 1) (k + 2 - 1) (is_once r.once) (omega arith) (omega arith) in
      let others = differ l (k + 1 - 1) (k + 3 - 1) (is_once r.once) (omega arith) (omega arith) in
      let w : AroundStep (cell_no l k) (cell_no l (k + 1)) (cell_no l (k + 2)) (cell_no l (k + 3)) = record {
        out = (halves r.walk k (k + 1) low refl (omega arith)).step;
        along = (halves r.walk (k + 1) (k + 2) (omega arith) (omega arith) (omega arith)).step;
        back = (halves r.walk (k + 2) (k + 3) (omega arith) (omega arith) high).step;
      } in
      press_sides p k l ∙ detour_there n (on_side n w two (λ q. others (sym q)))
