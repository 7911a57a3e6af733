-- A track that is edited is a track with the same ends: a bulge goes around a step, and a press goes straight where there was a detour.
use Prim.Native.Nat.{ℕ, ◌+◌, ◌-◌}
use native.Mathlib.Omega.{arith}
use mathlib.Core.Path.{◌≡◌, refl, subst⁻¹}
use mathlib.Core.Bool.{true}
use mathlib.Core.List.{List}
use lib.ListN.{length}
use Rattle.grid.specs.declared.Panel.{Panel}
use Rattle.grid.specs.declared.Cell.{Cell}
use Rattle.grid.specs.Track.{Walk, Track}
use Rattle.grid.proofs.Track.{walk_append}
use Rattle.list.proofs.Tracks.{is_all_on}
use Rattle.list.proofs.Indexed.{on_index}
use Rattle.detour.specs.declared.Kind.TheVariants.{Bulge, Press}
use Rattle.detour.specs.declared.Side.{Side}
use Rattle.detour.specs.declared.Edit.{Edit}
use Rattle.detour.specs.Detour.{cell_no, detour, bulged, pressed, edited, can_edit}
use Rattle.detour.proofs.Cut.{halves}
use Rattle.detour.proofs.Square.{around_step, next_ne}
use Rattle.detour.proofs.Facts.{CanBulge, IsDetour, by_kind}
use Rattle.detour.proofs.Lists.{bulged_length, pressed_length, bulged_pressed}
use Rattle.detour.proofs.Tidy.{Tidy, track_tidy, inserted, taken_out, put_two, two_free}

-- ---- tracks

module _ {p : Panel} {s t : Cell} {side : Side} {k : ℕ} {l : List Cell} (r : Track p s t l) where
  bulge_kept : CanBulge p side k l → Track p s t (bulged side k l)
  bulge_kept c =
      let on = is_all_on r.within in
      let h = halves r.walk k (k + 1) c.low refl c.high in
      let w = around_step side h.step (on_index p l (k - 1) on (omega arith)) (on_index p l (k + 1 - 1) on (omega arith)) in
      let front = put_two (next_ne w.along) c.first c.second (track_tidy r) in
      let q = inserted (detour side (cell_no l k) (cell_no l (k + 1))) k l front in
      record {
        walk = walk_append h.to w.out (Walk.step w.along (Walk.step w.back h.from));
        once = q.once;
        within = q.within;
      }

  module _ (c : IsDetour side k l) where
    -- the cells that a press takes out are free then, so a bulge can put them in again
    pub press_frees : CanBulge p side k (pressed k l) × Tidy p (pressed k l)
    press_frees =
        let m = pressed k l in
        let whole = subst⁻¹ (Tidy p) (bulged_pressed c) (track_tidy r) in
        let (first, second, rest) = two_free (taken_out (detour side (cell_no m k) (cell_no m (k + 1))) k m whole) in
        (record { low = c.low; high = omega (arith, pressed_length c); first = first; second = second }, rest)

    press_kept : Track p s t (pressed k l)
    press_kept =
        let to = (halves r.walk k (k + 1) c.low refl (omega arith)).to in
        let from = (halves r.walk (k + 2) (k + 3) (omega arith) (omega arith) c.high).from in
        let q = press_frees.1 in
        record { walk = walk_append to c.step from; once = q.once; within = q.within }

pub kept : (p : Panel) (s t : Cell) (e : Edit) (l : List Cell) → Track p s t l → can_edit p e l ≡ true → Track p s t (edited e l)
kept p s t e l r can = by_kind p e l (λ b m. Track p s t m) (bulge_kept r) (press_kept r) can

-- ---- lengths

pub bulge_adds : (p : Panel) (e : Edit) (l : List Cell) → e.kind ≡ Bulge → can_edit p e l ≡ true → length (edited e l) ≡ length l + 2
bulge_adds p e l b can =
    by_kind p e l (λ b m. b ≡ Bulge → length m ≡ length l + 2)
    (λ c q. bulged_length c) (λ c q. cc) can b

pub press_takes : (p : Panel) (e : Edit) (l : List Cell) → e.kind ≡ Press → can_edit p e l ≡ true → length (edited e l) + 2 ≡ length l
press_takes p e l b can =
    by_kind p e l (λ b m. b ≡ Press → length m + 2 ≡ length l)
    (λ c q. cc) (λ c q. pressed_length c) can b
