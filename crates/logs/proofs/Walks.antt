-- What is known along the walk over both logs: what the mark of a seen cell tells, and what is counted.
use Prim.Native.Nat.{ℕ, zero, suc, ◌+◌, ◌≤◌, ◌<◌}
use native.Mathlib.Omega.{arith}
use mathlib.Core.Path.{◌≡◌, refl, sym, ap, ◌∙◌}
use mathlib.Core.Bool.{Bool, true, false, cond, not, ◌||◌, true≢false}
use mathlib.Core.List.{List, [], ◌∷◌}
use lib.Dec.{leb, eqb}
use lib.ListN.{length, take, drop, get_or, take-append-drop}
use borrow.Author.Tests.{leb-true}
use Rattle.std.specs.Int.{from_bool}
use Rattle.grid.specs.declared.Panel.{Panel}
use Rattle.grid.specs.declared.Cell.{Cell}
use Rattle.grid.specs.Panel.{good_sides, cell, OnPanel}
use Rattle.grid.proofs.Facts.{and_parts, sides, area_small}
use Rattle.grid.proofs.Lists.{drop_next}
use Rattle.list.specs.List.{nth, among, none_twice}
use Rattle.list.proofs.Behind.{among_append, once_apart}
use Rattle.list.proofs.Indexed.{among_index}
use Rattle.pigeonhole.proofs.Long.{tested_few}
use Rattle.scratch.specs.Scratch.{place}
use Rattle.log_entries.specs.declared.Entry.{Entry}
use Rattle.log_entries.specs.Log.{entry, nth_entry, cells_of, rises_from}
use Rattle.log_entries.specs.Marks.{Changed, erased}
use Rattle.log_entries.proofs.EntryBytes.{length_cells_of, nth_cell, on_entry}
use Rattle.logs.specs.Counts.{tally, logged, logged_later, in_both, seen_earlier}
use Rattle.logs.specs.Walk.{GoodLog, BothGood, HoldsMarks, ahead, Passes}
use Rattle.logs.proofs.Ticks.{ahead_on, later_is_ahead}
use Rattle.logs.proofs.Tallies.{tally_most}

-- ---- the mark of a seen cell

-- what it holds where the cell stands among the laser's passed entries, or among those ahead, or in neither; never in both
read_mark : (gone left : Bool) → (gone ≡ true → left ≡ false) → let mark = cond gone 0 (cond (gone || left) 1 0 + 2) in
    (not (eqb mark 2) ≡ (gone || left)) × (eqb mark 3 ≡ left)
read_mark true true h = absurd (true≢false (h refl))
read_mark true false h = (refl, refl)
read_mark false true h = (refl, refl)
read_mark false false h = (refl, refl)

one_if : (b : Bool) → from_bool b ≡ cond b 1 0
one_if true = refl
one_if false = refl

cells_drop : (i : ℕ) (l : List Entry) → cells_of (drop i l) ≡ drop i (cells_of l)
cells_drop zero l = refl
cells_drop (suc i) [] = refl
cells_drop (suc i) (e ∷ l) = cells_drop i l

-- ---- the walk

-- the first i of the camera's entries are looked at, and the laser's are passed up to the last one's tick: what is counted and what is to come
-- make the whole
pub record Walking (p : Panel) (b s : List Entry) (base new : List ℕ) (both earlier passed i : ℕ) : Type 0 where
  pub last : ℕ
  pub up : rises_from last (drop i s) ≡ true
  pub to_come : (t : ℕ) → last ≤ t → ahead t (drop passed b) ≡ ahead t b
  pub gone : Changed p erased (take passed (cells_of b)) base new
  pub both_all : both + tally (logged b) (drop i s) ≡ in_both s b
  pub earlier_all : earlier + tally (logged_later b) (drop i s) ≡ seen_earlier b s

-- a log that passes its tests has at most 16,384 entries
pub few : {p : Panel} (l : List Entry) → good_sides p ≡ true → GoodLog p l → length l ≤ 16384
few {p} l g q = omega (arith, length_cells_of l, tested_few p (cells_of l) q.on q.once, area_small (sides p g))

module _ {p : Panel} (b s : List Entry) {base new : List ℕ} {both earlier passed : ℕ} (i : ℕ)
    (w : Walking p b s base new both earlier passed i) where
  pub erased_now : {t r : ℕ} {now : List ℕ} → Passes p b passed t new r now → Changed p erased (take r (cells_of b)) base now
  erased_now q = q.gone base w.gone

module _ {p : Panel} (b s : List Entry) {base : List ℕ} (good : BothGood p b s) where
  module _ {new : List ℕ} {both earlier passed : ℕ} (i : ℕ) (w : Walking p b s base new both earlier passed i) where
    -- what is counted is no more
    pub most : (both ≤ 16384) × (earlier ≤ 16384)
    most =
        let small = few s good.sides good.camera in
        (omega (arith, w.both_all, tally_most (logged b) s), omega (arith, w.earlier_all, tally_most (logged_later b) s))

    -- the next entry, before which the laser's are passed up to its tick
    module _ (h : i < length s) {r : ℕ} {now : List ℕ} (q : Passes p b passed (nth_entry s i).tick new r now) where
      abbrev e : Entry
      e = nth_entry s i

      abbrev c : Cell
      c = nth (cells_of s) i

      next : drop i s ≡ e ∷ drop (i + 1) s
      next = drop_next (entry (cell 0 0) 0) s i h

      rising : (leb w.last e.tick ≡ true) × (rises_from e.tick (drop (i + 1) s) ≡ true)
      rising = and_parts (leb w.last e.tick) (rises_from e.tick (drop (i + 1) s)) (sym (ap (rises_from w.last) next) ∙ w.up)

      same : c ≡ e.cell
      same = nth_cell s i

      inside : OnPanel p c
      inside = on_entry p s i good.camera.on h

      there : among c (cells_of s) ≡ true
      there = among_index (cells_of s) i (omega (arith, length_cells_of s))

      -- the laser's entries from r on are those above the tick
      left : drop r b ≡ ahead e.tick b
      left = q.left ∙ w.to_come e.tick (leb-true _ _ rising.0)

      -- where its cell stands in the laser's log
      abbrev passed_by : Bool
      passed_by = among c (take r (cells_of b))

      abbrev left_in : Bool
      left_in = among c (drop r (cells_of b))

      split : among c (cells_of b) ≡ (passed_by || left_in)
      split = ap (among c) (sym (take-append-drop r (cells_of b))) ∙ among_append c (take r (cells_of b)) (drop r (cells_of b))

      in_log : logged b e ≡ (passed_by || left_in)
      in_log = ap (λ (d : Cell). among d (cells_of b)) (sym same) ∙ split

      later : logged_later b e ≡ left_in
      later =
          later_is_ahead e b good.laser.up
          ∙ ap (λ (l : List Entry). logged l e) (sym left)
          ∙ (λ j. among (sym same j) (cells_drop r b j))

      -- what its place holds tells both
      module _ {at : ℕ} (m : HoldsMarks p b s base) (here : at ≡ place p c) where
        holds : get_or now at 0 ≡ cond passed_by 0 (cond (passed_by || left_in) 1 0 + 2)
        holds =
            ap (λ (k : ℕ). get_or now k 0) here
            ∙ (erased_now b s i w q).holds c inside
            ∙ ap (cond passed_by 0) (m.marks c inside ∙ (λ j. cond (split j) 1 0 + cond (there j) 2 0))

        told : (not (eqb (get_or now at 0) 2) ≡ logged b e) × (eqb (get_or now at 0) 3 ≡ logged_later b e)
        told =
            let once = ap none_twice (take-append-drop r (cells_of b)) ∙ good.laser.once in
            let (is-in, is_later) = read_mark passed_by left_in (once_apart c (take r (cells_of b)) (drop r (cells_of b)) once) in
            (ap (λ (k : ℕ). not (eqb k 2)) holds ∙ is-in ∙ sym in_log, ap (λ (k : ℕ). eqb k 3) holds ∙ is_later ∙ sym later)

        -- k and j are added to what is counted
        module _ {k j : ℕ} (f : k ≡ from_bool (not (eqb (get_or now at 0) 2))) (g : j ≡ from_bool (eqb (get_or now at 0) 3)) where
          counted : (t : Entry → Bool) (n : ℕ) {a : ℕ} → a ≡ cond (t e) 1 0 → n + tally t (drop i s) ≡ tally t s
              → n + a + tally t (drop (i + 1) s) ≡ tally t s
          counted t n one all = let more : tally t (drop i s) ≡ cond (t e) 1 0 + tally t (drop (i + 1) s) = ap (tally t) next in omega arith

          pub walked_next : Walking p b s base now (both + k) (earlier + j) r (i + 1)
          walked_next = record {
            last = e.tick;
            up = rising.1;
            to_come = λ t up. ap (ahead t) left ∙ ahead_on up b;
            gone = erased_now b s i w q;
            both_all = counted (logged b) both (f ∙ one_if (not (eqb (get_or now at 0) 2)) ∙ ap (λ (a : Bool). cond a 1 0) told.0) w.both_all;
            earlier_all = counted (logged_later b) earlier (g ∙ one_if (eqb (get_or now at 0) 3) ∙ ap (λ (a : Bool). cond a 1 0) told.1) w.earlier_all;
          }
