-- What a sheet says of a probe where nothing is refused, in the words of tracks: the position given is the only place of its cell on the track,
-- and a missed probe's nearest cell is the earliest of the nearest.
use Rattle.std.specs.Prelude.{Ok}
use Prim.Native.Nat.{ℕ, suc, ◌≤◌, ◌<◌}
use native.Mathlib.Omega.{arith}
use mathlib.Core.Path.{◌≡◌, refl, sym, ap, subst⁻¹, ◌∙◌}
use mathlib.Core.Bool.{false}
use mathlib.Core.Logic.{◌≢◌, ◌↔◌}
use mathlib.Core.List.{List, [], map}
use lib.ListN.{length, get_or, length-map}
use borrow.Author.Tests.{eq-eqb, ne_eqb}
use Rattle.grid.specs.declared.Panel.{Panel}
use Rattle.grid.specs.declared.Cell.{Cell}
use Rattle.grid.specs.Check.{Check}
use Rattle.grid.specs.Panel.{cell}
use Rattle.grid.specs.Track.{Track}
use Rattle.grid.specs.Bytes.{cells_in}
use Rattle.grid.proofs.Passed.{expect_rest, after_passed, after_rest}
use Rattle.grid.proofs.Tests.{cond_yes, cond_no}
use Rattle.grid.proofs.Track.{some_cell}
use Rattle.list.specs.List.{nth, among}
use Rattle.list.proofs.Tracks.{TrackTests, tests_track}
use Rattle.judge.specs.Judge.{sizes_check, judge_check}
use Rattle.judge.proofs.Checks.{passed}
use Rattle.probe_walk.specs.Probes.{position, nearest_missed}
use Rattle.probe_walk.proofs.Positions.{is_not_on, place_given, place_only}
use Rattle.probe_walk.proofs.Nearest.{Nearest, nearest_right}
use Rattle.probe_walk.proofs.Sheets.{placed_nth, placed_unused}
use Rattle.probe.specs.Probe.{few_probes, probe_check, SheetValues, sheet, probe_of}

module _ (p : Panel) (s t : Cell) (list probes : List ℕ) (room : ℕ) (good : probe_check p s t list probes room ≡ Ok tt) where
  abbrev q : List Cell
  q = cells_in probes

  abbrev l : List Cell
  l = cells_in list

  abbrev r : SheetValues
  r = probe_of p s t list probes room

  is_given : r ≡ sheet (Ok tt) q l
  is_given = ap (λ (c : Check). sheet c q l) good

  tests : TrackTests p s t l
  tests =
      let judged = after_passed (judge_check p s t list room) _ (expect_rest (few_probes (length probes)) _ _ good) in
      passed p s t l (after_rest (sizes_check p s t (length list) room) _ judged)

  -- the list is a track
  pub on_track : Track p s t l
  on_track = tests_track tests

  module _ (i : ℕ) where
    -- a place that is used
    module _ (h : i < length q) where
      abbrev c : Cell
      c = nth q i

      at_place : get_or r.positions i 0 ≡ position c l
      at_place = ap (λ (a : SheetValues). get_or a.positions i 0) is_given ∙ placed_nth 0 (λ c. position c l) q i 0 h

      near_place : get_or r.nearest i (cell 0 0) ≡ nearest_missed l c
      near_place = ap (λ (a : SheetValues). get_or a.nearest i (cell 0 0)) is_given ∙ placed_nth (cell 0 0) (nearest_missed l) q i (cell 0 0) h

      -- it holds suc k exactly if the cell with the number k of the track, from 0, is the probe's
      pub found : (k : ℕ) → (get_or r.positions i 0 ≡ suc k) ↔ ((k < length l) × (nth l k ≡ c))
      found k = (
        λ e. place_given c l k (sym at_place ∙ e),
        λ e. at_place ∙ place_only c l k tests.once e.0 e.1,
      )

      pub found_blank : get_or r.positions i 0 ≢ 0 → get_or r.nearest i (cell 0 0) ≡ cell 0 0
      found_blank n = near_place ∙ sym (cond_no _ _ (ne_eqb (position c l) 0 (λ e. n (at_place ∙ e))) refl)

      -- and 0 exactly if the probe is missed; then it has the nearest cell
      pub missed : get_or r.positions i 0 ≡ 0 → (among c l ≡ false) × Nearest c l (get_or r.nearest i (cell 0 0))
      missed e =
          let none : position c l ≡ 0 = sym at_place ∙ e in
          let near = near_place ∙ sym (cond_yes _ _ (eq-eqb (position c l) 0 none) refl) in
          let some : l ≢ [] = λ z. absurd (omega (arith, some_cell on_track.walk, ap length z)) in
          (is_not_on c l none, subst⁻¹ (Nearest c l) near (nearest_right c l some))

    -- a place that is not
    pub unused : length q ≤ i → (get_or r.positions i 0 ≡ 0) × (get_or r.nearest i (cell 0 0) ≡ cell 0 0)
    unused h = (
      ap (λ (a : SheetValues). get_or a.positions i 0) is_given
          ∙ placed_unused 0 (map (λ c. position c l) q) i (omega (arith, length-map q (λ c. position c l))),
      ap (λ (a : SheetValues). get_or a.nearest i (cell 0 0)) is_given
          ∙ placed_unused (cell 0 0) (map (nearest_missed l) q) i (omega (arith, length-map q (nearest_missed l))),
    )
