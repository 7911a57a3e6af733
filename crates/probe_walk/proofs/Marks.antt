-- What is known while the probes are marked: the marks stand for those that were taken. A mark is found by its cell alone.
use Prim.Native.Nat.{ℕ, ◌+◌, ◌≤◌, ◌<◌}
use native.Mathlib.Omega.{arith}
use mathlib.Core.Path.{◌≡◌, refl, sym, ap, subst⁻¹, ◌∙◌}
use mathlib.Core.Bool.{Bool, true, false, cond}
use mathlib.Core.Logic.{◌≢◌}
use mathlib.Core.List.{List, [], ◌∷◌, ◌++◌}
use lib.ListN.{length, take, drop, get_or, set, length-set}
use lib.Seq.{length-take-le}
use Rattle.grid.specs.declared.Panel.{Panel}
use Rattle.grid.specs.declared.Cell.{Cell}
use Rattle.grid.specs.Panel.{cell, area, OnPanel, same_cell}
use Rattle.grid.proofs.Facts.{same_eq}
use Rattle.grid.proofs.Lists.{take_next}
use Rattle.grid.proofs.Tests.{both_branches}
use Rattle.list.specs.List.{nth, among}
use Rattle.list.proofs.Behind.{same_sym}
use Rattle.scratch.specs.Scratch.{place, held}
use Rattle.scratch.proofs.Marks.{held_set}
use Rattle.scratch.proofs.Places.{put_rest}
use Rattle.probe_walk.specs.Probes.{position}
use Rattle.probe_walk.specs.Search.{unfound, Marked}
use Rattle.probe_walk.proofs.Positions.{is_not_on, is_on_list, position_new, position_other, position_old}
use Rattle.probe_walk.proofs.Unfound.{unfound_marked}

-- the first i probes of q are marked, in scratch that was old
pub record Marking (p : Panel) (q : List Cell) (old new : List ℕ) (different i : ℕ) : Type 0 where
  pub most : i ≤ length q
  pub marked : Marked p (take i q) new
  pub counted : different ≡ unfound (take i q) []
  pub few : different ≤ i
  pub size : length new ≡ length old
  pub rest : drop (area p) new ≡ drop (area p) old

pub marking_same : {p : Panel} {q : List Cell} {old m n : List ℕ} {j k i : ℕ} → m ≡ n → j ≡ k → Marking p q old n k i → Marking p q old m j i
marking_same {p} {q} {old} {n = n} {j} {i = i} e f w =
    subst⁻¹ (λ (m : List ℕ). Marking p q old m j i) e (subst⁻¹ (λ (k : ℕ). Marking p q old n k i) f w)

-- the next probe
module _ {p : Panel} {q : List Cell} {old new : List ℕ} {different i : ℕ} (m : Marking p q old new different i) (h : i < length q)
    (o : OnPanel p (nth q i)) where
  abbrev c : Cell
  c = nth q i

  abbrev t : List Cell
  t = take i q

  next : take (i + 1) q ≡ t ++ c ∷ []
  next = take_next (cell 0 0) q i h

  -- its cell, whose place is k, is marked already
  pub marked_before : {k : ℕ} → k ≡ place p c → get_or new k 0 ≢ 0 → Marking p q old new different (i + 1)
  marked_before at n =
      let was : among c t ≡ true = is_on_list c t (λ e. n (ap (λ (k : ℕ). get_or new k 0) at ∙ m.marked.marks c o ∙ e)) in
      let none : ◌≡◌ {A = ℕ} (cond (among c t) 0 1) 0 = ap (λ (b : Bool). cond b 0 1) was in
      let same : unfound (take (i + 1) q) [] ≡ unfound (t ++ c ∷ []) [] = ap (λ (k : List Cell). unfound k []) next in
      record {
        most = omega arith;
        marked = record {
          room = m.marked.room;
          marks = λ d on. m.marked.marks d on ∙ sym (position_old d t c was) ∙ ap (position d) (sym next);
        };
        counted = omega (arith, m.counted, unfound_marked t c);
        few = omega (arith, m.few);
        size = m.size;
        rest = m.rest;
      }

  marked_there : get_or new (place p c) 0 ≡ 0 → Marking p q old (set new (place p c) (i + 1)) (different + 1) (i + 1)
  marked_there z =
      let one : ◌≡◌ {A = ℕ} (cond (among c t) 0 1) 1 = ap (λ (b : Bool). cond b 0 1) fresh in
      let same : unfound (take (i + 1) q) [] ≡ unfound (t ++ c ∷ []) [] = ap (λ (k : List Cell). unfound k []) next in
      record {
        most = omega arith;
        marked = record {
          room = omega (arith, m.marked.room, length-set new (place p c) (i + 1));
          marks = λ d on. held_set new o (i + 1) m.marked.room on ∙ at_place d on ∙ ap (position d) (sym next);
        };
        counted = omega (arith, m.counted, unfound_marked t c);
        few = omega (arith, m.few);
        size = length-set new (place p c) (i + 1) ∙ m.size;
        rest = put_rest o refl new (i + 1) ∙ m.rest;
      }
    where
      fresh : among c t ≡ false
      fresh = is_not_on c t (sym (m.marked.marks c o) ∙ z)

      at_place : (d : Cell) → OnPanel p d → cond (same_cell c d) (i + 1) (held p new d) ≡ position d (t ++ c ∷ [])
      at_place d on =
          let here : i + 1 ≡ 1 + length t = omega (arith, length-take-le i q (omega arith)) in
          both_branches (λ (k : ℕ). k ≡ position d (t ++ c ∷ [])) (same_cell c d) (i + 1) (held p new d)
          (λ e. here ∙ sym (position_new c t [] fresh) ∙ ap (λ (a : Cell). position a (t ++ c ∷ [])) (same_eq c d e))
          (λ e. m.marked.marks d on ∙ sym (position_other d t c (same_sym d c ∙ e)))

  -- it is marked now
  pub marked_now : {k : ℕ} → k ≡ place p c → get_or new k 0 ≡ 0 → Marking p q old (set new k (i + 1)) (different + 1) (i + 1)
  marked_now at z =
      subst⁻¹ (λ (k : ℕ). Marking p q old (set new k (i + 1)) (different + 1) (i + 1)) at
      (marked_there (sym (ap (λ (k : ℕ). get_or new k 0) at) ∙ z))
