-- What is known along the walk: what is noted is right for the cells read so far, and once no probed cell is left the last cell read is the
-- furthest. At its end what is noted is right for the whole list, and as many cells are read as the definition says.
use Prim.Native.Nat.{ℕ, suc, ◌+◌, ◌-◌, ◌≤◌, ◌<◌}
use native.Mathlib.Omega.{arith}
use mathlib.Core.Path.{◌≡◌, refl, sym, ap, subst⁻¹, ◌∙◌}
use mathlib.Core.Bool.{Bool, true, false, true≢false}
use mathlib.Core.Logic.{◌≢◌}
use mathlib.Core.List.{List, [], ◌∷◌, ◌++◌}
use lib.Dec.{eqb}
use lib.ListN.{length, take, drop, get_or, set, replicate, take-append-drop, get_or-replicate, length-replicate, length-set}
use lib.Seq.{length-take-le, take-length, get_or-set_same, get_or-set_other}
use borrow.Author.Tests.{eq-eqb, eqb-true}
use Rattle.grid.specs.declared.Panel.{Panel}
use Rattle.grid.specs.declared.Cell.{Cell}
use Rattle.grid.specs.Panel.{cell, OnPanel, same_cell}
use Rattle.grid.proofs.Facts.{same_eq, same_ne, ne_same}
use Rattle.grid.proofs.Lists.{take_next}
use Rattle.list.specs.List.{nth, among}
use Rattle.probe_walk.specs.Probes.{places, position, all_among, furthest, cells_read}
use Rattle.scratch.specs.Scratch.{place}
use Rattle.probe_walk.specs.Search.{unfound, Marked, Noted}
use Rattle.probe_walk.proofs.Positions.{is_on_list, position_by, position_new, position_other, place_given, position_once}
use Rattle.probe_walk.proofs.Unfound.{member, unfound_other, unfound_one, unfound_none, furthest_none, furthest_last, read_stopped, read_all}

pub record Walking (q l : List Cell) (found : List ℕ) (left read : ℕ) : Type 0 where
  pub most : read ≤ length l
  pub counted : left ≡ unfound q (take read l)
  pub last : left ≡ 0 → furthest q (take read l) ≡ read
  pub noted : Noted q (take read l) found
  pub size : length found ≡ places

pub none_read : (q l : List Cell) {found : List ℕ} {left : ℕ} → length q ≤ places → found ≡ replicate places 0 → left ≡ unfound q []
    → Walking q l found left 0
none_read q l few e f = record {
  most = omega arith;
  counted = f;
  last = λ _. furthest_none q;
  noted = record {
    notes = λ c i h. ap (λ (k : List ℕ). get_or k i 0) e ∙ get_or-replicate places i 0 0 (omega (arith, (place_given c q i h).0, few));
  };
  size = ap length e ∙ length-replicate {A = ℕ} places 0;
}

pub walking_same : {q l : List Cell} {m n : List ℕ} {j k i : ℕ} → m ≡ n → j ≡ k → Walking q l n k i → Walking q l m j i
walking_same {q} {l} {n = n} {j} {i = i} e f w = subst⁻¹ (λ (m : List ℕ). Walking q l m j i) e (subst⁻¹ (λ (k : ℕ). Walking q l n k i) f w)

-- a mark in scratch
module _ {p : Panel} {q : List Cell} {scratch : List ℕ} (m : Marked p q scratch) {c : Cell} (o : OnPanel p c) {at : ℕ} (e : at ≡ place p c) where
  pub is_mark : get_or scratch at 0 ≡ position c q
  is_mark = ap (λ (k : ℕ). get_or scratch k 0) e ∙ m.marks c o

  -- that is not 0 is the number of a probe
  module _ (probed : get_or scratch at 0 ≢ 0) where
    pub at_mark : position c q ≡ suc (get_or scratch at 0 - 1)
    at_mark = omega (arith, is_mark)

    pub in_found : {k : ℕ} → length q ≤ places → places ≤ k → get_or scratch at 0 - 1 < k
    in_found few n = let (found, _) = place_given c q (get_or scratch at 0 - 1) at_mark in omega (arith, found)

-- a position noted
probed : (q : List Cell) (c : Cell) (i : ℕ) → position c q ≡ suc i → among c q ≡ true
probed q c i e = is_on_list c q (λ f. omega arith)

-- the next cell
module _ {q l : List Cell} {found : List ℕ} {left read : ℕ} (w : Walking q l found left read) (h : read < length l) where
  abbrev c : Cell
  c = nth l read

  abbrev t : List Cell
  t = take read l

  next : take (read + 1) l ≡ t ++ c ∷ []
  next = take_next (cell 0 0) l read h

  -- is not probed
  pub passed_over : left ≢ 0 → among c q ≡ false → Walking q l found left (read + 1)
  passed_over some n = record {
    most = omega arith;
    counted = w.counted ∙ sym (unfound_other q t c n) ∙ ap (unfound q) (sym next);
    last = λ z. absurd (some z);
    noted = record {
      notes = λ d i e. w.noted.notes d i e ∙ sym (position_other d t c (other d i e)) ∙ ap (position d) (sym next);
    };
    size = w.size;
  }
    where
      other : (d : Cell) (i : ℕ) → position d q ≡ suc i → same_cell d c ≡ false
      other d i e = ne_same d c (λ f. true≢false (sym (probed q d i e) ∙ ap (λ (a : Cell). among a q) f ∙ n))

  -- is found
  pub found_now : {j : ℕ} → position c q ≡ suc j → among c t ≡ false → j < length found → (less : ℕ) → less + 1 ≡ left
      → Walking q l (set found j (read + 1)) less (read + 1)
  found_now {j} at new room less n = record {
    most = omega arith;
    counted = omega (arith, w.counted, unfound_one q t c (probed q c j at) new, ap (unfound q) next);
    last = λ _. furthest_last q (take (read + 1) l) c (probed q c j at) (here ∙ long) ∙ sym long;
    noted = record { notes = λ d i e. by_same d i e (same_cell d c) refl };
    size = length-set found j (read + 1) ∙ w.size;
  }
    where
      long : read + 1 ≡ length (take (read + 1) l)
      long = sym (length-take-le (read + 1) l (omega arith))

      here : position c (take (read + 1) l) ≡ read + 1
      here =
          let e : 1 + length t ≡ read + 1 = omega (arith, length-take-le read l (omega arith)) in
          ap (position c) next ∙ position_new c t [] new ∙ e

      by_same : (d : Cell) (i : ℕ) → position d q ≡ suc i → (b : Bool) → same_cell d c ≡ b
          → get_or (set found j (read + 1)) i 0 ≡ position d (take (read + 1) l)
      by_same d i e true s =
          let f : i ≡ j = omega (arith, ap (λ (a : Cell). position a q) (same_eq d c s)) in
          ap (λ (k : ℕ). get_or (set found j (read + 1)) k 0) f
          ∙ get_or-set_same found j (read + 1) 0 room
          ∙ sym here
          ∙ ap (λ (a : Cell). position a (take (read + 1) l)) (sym (same_eq d c s))
      by_same d i e false s =
          let apart : i ≢ j = λ f. same_ne d c s (position_once d c q j (e ∙ ap suc f) at) in
          get_or-set_other found j i (read + 1) 0 apart ∙ w.noted.notes d i e ∙ sym (position_other d t c s) ∙ ap (position d) (sym next)

-- the walk ends
module _ {q l : List Cell} {found : List ℕ} {left read : ℕ} (w : Walking q l found left read) where
  abbrev front : List Cell
  front = take read l

  long : length front ≡ read
  long = length-take-le read l w.most

  parts : front ++ drop read l ≡ l
  parts = take-append-drop read l

  -- since none is left
  module _ (z : left ≡ 0) where
    all : all_among q front ≡ true
    all = sym (unfound_none q front) ∙ eq-eqb _ _ (sym w.counted ∙ z)

    pub stopped_noted : Noted q l found
    stopped_noted = record {
      notes = λ c i e. w.noted.notes c i e ∙ sym (position_by c front (drop read l) (member q front c all (probed q c i e))) ∙ ap (position c) parts;
    }

    pub stopped_read : read ≡ cells_read q l
    stopped_read = sym long ∙ read_stopped q front (drop read l) all (w.last z ∙ sym long) ∙ ap (cells_read q) parts

  -- since no cell is left
  module _ (end : length l ≤ read) where
    whole : front ≡ l
    whole = let e : read ≡ length l = omega (arith, w.most) in ap (λ (k : ℕ). take k l) e ∙ take-length l

    pub ended_read : read ≡ cells_read q l
    ended_read = go (eqb left 0) refl
      where
        go : (b : Bool) → eqb left 0 ≡ b → read ≡ cells_read q l
        go true e = stopped_read (eqb-true _ _ e)
        go false e =
            let some : all_among q l ≡ false = ap (all_among q) (sym whole) ∙ sym (unfound_none q front) ∙ ap (λ (k : ℕ). eqb k 0) (sym w.counted) ∙ e in
            let n : read ≡ length l = omega (arith, w.most) in
            n ∙ read_all q l some
