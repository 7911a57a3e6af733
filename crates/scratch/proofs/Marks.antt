-- Marks: what is put at the place of a cell is found by that cell alone, since no two cells share a place; in clean scratch each place holds 0.
use Prim.Native.Nat.{ℕ, ◌≤◌, ◌<◌}
use native.Mathlib.Omega.{arith}
use mathlib.Core.Path.{◌≡◌, refl, sym, ap, ◌∙◌}
use mathlib.Core.Bool.{Bool, true, false, cond, not, ◌&&◌}
use mathlib.Core.List.{List}
use lib.Dec.{eqb}
use lib.ListN.{length, get_or, set, get_or-replicate}
use lib.Seq.{get_or-set_same, get_or-set_other, get_or-take}
use borrow.Author.Tests.{eq-eqb}
use Rattle.grid.specs.declared.Panel.{Panel}
use Rattle.grid.specs.declared.Cell.{Cell}
use Rattle.grid.specs.Panel.{area, OnPanel, same_cell}
use Rattle.grid.proofs.Facts.{same_eq, same_ne}
use Rattle.scratch.specs.Scratch.{place, held, unmarked, Clean}
use Rattle.scratch.proofs.Places.{place_below, place_once}

module _ {p : Panel} (s : List ℕ) {c : Cell} (o : OnPanel p c) where
  pub held_clean : Clean p s → held p s c ≡ 0
  held_clean k =
      let h : place p c < area p = place_below o in
      sym (get_or-take (area p) s (place p c) 0 h)
      ∙ ap (λ (t : List ℕ). get_or t (place p c) 0) k.zeros
      ∙ get_or-replicate (area p) (place p c) 0 0 h

  pub held_set : (v : ℕ) {d : Cell} → area p ≤ length s → OnPanel p d → held p (set s (place p c) v) d ≡ cond (same_cell c d) v (held p s d)
  held_set v {d} h q = by_same (same_cell c d) refl
    where
      by_same : (b : Bool) → same_cell c d ≡ b → held p (set s (place p c) v) d ≡ cond b v (held p s d)
      by_same true e =
          ap (held p (set s (place p c) v)) (sym (same_eq c d e)) ∙ get_or-set_same s (place p c) v 0 (omega (arith, place_below o))
      by_same false e = get_or-set_other s (place p c) (place p d) v 0 (λ f. same_ne c d e (place_once o q (sym f)))

  pub unmarked_clean : Clean p s → unmarked p s c ≡ true
  unmarked_clean k = eq-eqb (held p s c) 0 (held_clean k)

  pub unmarked_set : {d : Cell} → area p ≤ length s → OnPanel p d
      → unmarked p (set s (place p c) 1) d ≡ (not (same_cell c d) && unmarked p s d)
  unmarked_set {d} h q = ap (λ (k : ℕ). eqb k 0) (held_set 1 h q) ∙ by_same (same_cell c d)
    where
      by_same : (b : Bool) → eqb (cond b 1 (held p s d)) 0 ≡ (not b && unmarked p s d)
      by_same true = refl
      by_same false = refl
