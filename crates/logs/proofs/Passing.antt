-- What is known while the laser's entries are passed: those behind the first ones up to a tick, each of whose places is erased.
use Prim.Native.Nat.{ℕ, ◌+◌, ◌≤◌, ◌<◌}
use native.Mathlib.Omega.{arith}
use mathlib.Core.Path.{◌≡◌, refl, sym, ap, subst, ◌∙◌}
use mathlib.Core.Bool.{true}
use mathlib.Core.List.{List, ◌∷◌}
use lib.ListN.{length, take, drop, set, length-set}
use borrow.Author.Tests.{le-leb, lt-leb}
use Rattle.grid.specs.declared.Panel.{Panel}
use Rattle.grid.specs.declared.Cell.{Cell}
use Rattle.grid.specs.Panel.{cell, area, OnPanel}
use Rattle.grid.proofs.Lists.{take_next, drop_next}
use Rattle.grid.proofs.Tests.{cond_yes, cond_no}
use Rattle.list.specs.List.{nth, none_twice}
use Rattle.list.proofs.Indexed.{new_index}
use Rattle.scratch.specs.Scratch.{place}
use Rattle.log_entries.specs.declared.Entry.{Entry}
use Rattle.log_entries.specs.Log.{entry, nth_entry, cells_of}
use Rattle.log_entries.specs.Marks.{Changed, erased}
use Rattle.log_entries.proofs.EntryBytes.{length_cells_of}
use Rattle.log_entries.proofs.Marks.{one_more}
use Rattle.logs.specs.Walk.{ahead, Passes}

-- the entries from the first `passed` up to i are passed too
pub record Passing (p : Panel) (l : List Entry) (passed t : ℕ) (old new : List ℕ) (i : ℕ) : Type 0 where
  pub to_come : ahead t (drop i l) ≡ ahead t (drop passed l)
  pub size : length new ≡ length old
  pub gone : (base : List ℕ) → Changed p erased (take passed (cells_of l)) base old → Changed p erased (take i (cells_of l)) base new

module _ {p : Panel} (l : List Entry) {passed t : ℕ} {old new : List ℕ} (i : ℕ) (k : Passing p l passed t old new i) where
  module _ (h : i < length l) where
    next : drop i l ≡ nth_entry l i ∷ drop (i + 1) l
    next = drop_next (entry (cell 0 0) 0) l i h

    -- the next one is ahead
    pub stopped : t < (nth_entry l i).tick → Passes p l passed t old i new
    stopped q =
        record { left = next ∙ cond_no _ _ (lt-leb (nth_entry l i).tick t q) refl ∙ sym (ap (ahead t) next) ∙ k.to_come; gone = k.gone }

    -- it is passed
    pub passed_next : (nth_entry l i).tick ≤ t → OnPanel p (nth (cells_of l) i) → none_twice (cells_of l) ≡ true → area p ≤ length old
        → {at v : ℕ} → at ≡ place p (nth (cells_of l) i) → v ≡ 0 → Passing p l passed t old (set new at v) (i + 1)
    passed_next q o once room {at} {v} here none =
        let there : i < length (cells_of l) = omega (arith, length_cells_of l) in
        record {
          to_come = cond_yes _ _ (le-leb (nth_entry l i).tick t q) refl ∙ sym (ap (ahead t) next) ∙ k.to_come;
          size = length-set new at v ∙ k.size;
          gone = λ base g.
              let done = k.gone base g in
              subst (λ (c : List Cell). Changed p erased c base (set new at v)) (sym (take_next (cell 0 0) (cells_of l) i there))
              (one_more done o (new_index (cells_of l) i once there) (omega (arith, done.size, k.size)) here none);
        }
