-- An edit and then its opposite give back the track, and the opposite can be made.
use Prim.Native.Nat.{ℕ, ◌+◌}
use native.Mathlib.Omega.{arith}
use mathlib.Core.Path.{◌≡◌, refl, sym, subst₂, ◌∙◌}
use mathlib.Core.Bool.{true}
use mathlib.Core.List.{List}
use Rattle.grid.specs.declared.Panel.{Panel}
use Rattle.grid.specs.declared.Cell.{Cell}
use Rattle.grid.specs.Panel.{Neighbours}
use Rattle.grid.specs.Track.{Track}
use Rattle.detour.specs.declared.Kind.{Kind}
use Rattle.detour.specs.declared.Kind.TheVariants.{Bulge, Press}
use Rattle.detour.specs.declared.Side.{Side}
use Rattle.detour.specs.declared.Edit.{Edit}
use Rattle.detour.specs.Detour.{cell_beside, bulged, edited, can_edit, opposite, of_kind}
use Rattle.detour.proofs.Cut.{halves}
use Rattle.detour.proofs.Facts.{CanBulge, is_bulge, IsDetour, is_press, by_kind}
use Rattle.detour.proofs.Lists.{bulged_length, bulged_a, bulged_a', bulged_b', bulged_b, pressed_bulged, bulged_pressed}
use Rattle.detour.proofs.Kept.{press_frees}

-- the detour that a bulge puts in can be pressed
bulge_shows : {p : Panel} {s t : Cell} {side : Side} {k : ℕ} {l : List Cell} → Track p s t l → CanBulge p side k l → IsDetour side k (bulged side k l)
bulge_shows {side = side} {k = k} r c =
    let a = sym (bulged_a c) in
    let b = sym (bulged_b c) in
    record {
      low = c.low;
      high = omega (arith, bulged_length c);
      step = subst₂ Neighbours a b (halves r.walk k (k + 1) c.low refl c.high).step;
      first = bulged_a' c ∙ (λ i. cell_beside side (a i) (b i) (a i));
      second = bulged_b' c ∙ (λ i. cell_beside side (a i) (b i) (b i));
    }

pub undone : (p : Panel) (s t : Cell) (e : Edit) (l : List Cell) → Track p s t l → can_edit p e l ≡ true
    → (can_edit p (opposite e) (edited e l) ≡ true) × (edited (opposite e) (edited e l) ≡ l)
undone p s t e l r can =
    by_kind p e l (λ b m. (can_edit p (back b) m ≡ true) × (edited (back b) m ≡ l))
    (λ c. (is_press (bulge_shows r c), pressed_bulged c))
    (λ c. (is_bulge (press_frees r c).0, bulged_pressed c)) can
  where
    -- of a bulge the press, of a press the bulge
    back : Kind → Edit
    back b = record { place = e.place; kind = of_kind b Press Bulge; side = e.side }
