-- The lists that a bulge and a press make: their lengths, the cells at the places of a bulge, and that each undoes the other.
use Prim.Native.Nat.{ℕ, ◌+◌, ◌≤◌}
use native.Mathlib.Omega.{arith}
use mathlib.Core.Path.{◌≡◌, refl, sym, ap, ◌∙◌}
use mathlib.Core.List.{List, ◌∷◌, ◌++◌}
use lib.ListN.{length, take, drop, length-append, length-drop, take-append-drop}
use lib.Seq.{length-take-le}
use Rattle.grid.specs.declared.Panel.{Panel}
use Rattle.grid.specs.declared.Cell.{Cell}
use Rattle.detour.specs.declared.Side.{Side}
use Rattle.detour.specs.Detour.{cell_beside, cell_no, detour, bulged, pressed}
use Rattle.detour.proofs.Cut.{first_behind, two_behind, take_kept, drop_new, place_kept, place_new}
use Rattle.detour.proofs.Facts.{CanBulge, IsDetour}

-- ---- a bulge

module _ {p : Panel} {side : Side} {k : ℕ} {l : List Cell} (c : CanBulge p side k l) where
  there : k ≤ length l
  there = omega arith

  abbrev rest : List Cell
  rest = detour side (cell_no l k) (cell_no l (k + 1)) ++ drop k l

  pub bulged_length : length (bulged side k l) ≡ length l + 2
  bulged_length = omega (arith, length-append (take k l) rest, length-take-le k l there, length-drop k l)

  -- a, a', b' and b, one behind the other
  pub bulged_a : cell_no (bulged side k l) k ≡ cell_no l k
  bulged_a = place_kept l k there rest c.low

  pub bulged_a' : cell_no (bulged side k l) (k + 1) ≡ cell_beside side (cell_no l k) (cell_no l (k + 1)) (cell_no l k)
  bulged_a' = place_new l k there rest (k + 1) 0 (omega arith)

  pub bulged_b' : cell_no (bulged side k l) (k + 2) ≡ cell_beside side (cell_no l k) (cell_no l (k + 1)) (cell_no l (k + 1))
  bulged_b' = place_new l k there rest (k + 2) 1 (omega arith)

  pub bulged_b : cell_no (bulged side k l) (k + 3) ≡ cell_no l (k + 1)
  bulged_b = place_new l k there rest (k + 3) 2 (omega arith) ∙ first_behind l k (k + 1) refl

  pub pressed_bulged : pressed k (bulged side k l) ≡ l
  pressed_bulged = (λ i. take_kept l k there rest i ++ drop_new l k there rest (k + 2) 2 refl i) ∙ take-append-drop k l

-- ---- a press

module _ {side : Side} {k : ℕ} {l : List Cell} (c : IsDetour side k l) where
  pub pressed_length : length (pressed k l) + 2 ≡ length l
  pressed_length = omega (arith, length-append (take k l) (drop (k + 2) l), length-take-le k l (omega arith), length-drop (k + 2) l)

  pub bulged_pressed : bulged side k (pressed k l) ≡ l
  bulged_pressed =
      let h : k ≤ length l = omega arith in
      let rest = drop (k + 2) l in
      let a = place_kept l k h rest c.low in
      let b = place_new l k h rest (k + 1) 0 (omega arith) ∙ first_behind l (k + 2) (k + 3) (omega arith) in
      (λ i. take_kept l k h rest i ++ (detour side (a i) (b i) ++ drop_new l k h rest k 0 (omega arith) i))
      ∙ (λ i. take k l ++ sym c.first i ∷ sym c.second i ∷ rest)
      ∙ ap (λ (q : List Cell). take k l ++ q) (sym (two_behind l k (omega arith)))
      ∙ take-append-drop k l
