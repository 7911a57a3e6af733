-- Tallies: a test and its opposite count every entry; what passes a stricter test is no more; and cells in both logs are as many from either side,
-- where no cell stands twice in a log. So the four numbers add up to the lengths of the logs.
use Prim.Native.Nat.{ℕ, ◌+◌, ◌≤◌}
use native.Mathlib.Omega.{arith}
use mathlib.Core.Path.{◌≡◌, refl, sym, ap, ◌∙◌}
use mathlib.Core.Bool.{Bool, true, false, cond, not, ◌&&◌, ◌||◌}
use mathlib.Core.List.{List, [], ◌∷◌}
use lib.Dec.{ltb}
use lib.ListN.{length}
use borrow.Author.Tests.{not-true}
use Rattle.grid.specs.declared.Cell.{Cell}
use Rattle.grid.specs.Panel.{same_cell}
use Rattle.grid.proofs.Facts.{and_parts, same_eq}
use Rattle.list.specs.List.{among, none_twice}
use Rattle.list.proofs.Behind.{same_sym}
use Rattle.log_entries.specs.declared.Entry.{Entry}
use Rattle.log_entries.specs.Log.{cells_of}
use Rattle.logs.specs.declared.LogCounts.{LogCounts}
use Rattle.logs.specs.Counts.{tally, logged, logged_later, in_both, only_in, seen_earlier, counts_of}

-- ---- one log

tally_all : (f : Entry → Bool) (l : List Entry) → tally f l + tally (λ e. not (f e)) l ≡ length l
tally_all f [] = refl
tally_all f (e ∷ l) = omega (arith, one (f e), tally_all f l)
  where
    one : (b : Bool) → ◌≡◌ {A = ℕ} (cond b 1 0 + cond (not b) 1 0) 1
    one true = refl
    one false = refl

pub tally_most : (f : Entry → Bool) (l : List Entry) → tally f l ≤ length l
tally_most f l = omega (arith, tally_all f l)

tally_stricter : (f g : Entry → Bool) → ((e : Entry) → f e ≡ true → g e ≡ true) → (l : List Entry) → tally f l ≤ tally g l
tally_stricter f g h [] = omega arith
tally_stricter f g h (e ∷ l) = omega (arith, one (f e) (g e) (h e), tally_stricter f g h l)
  where
    one : (a b : Bool) → (a ≡ true → b ≡ true) → ◌≤◌ (cond a 1 0) (cond b 1 0)
    one true b k = let e : ◌≡◌ {A = ℕ} (cond b 1 0) 1 = ap (λ (r : Bool). cond r 1 0) (k refl) in omega arith
    one false b k = omega arith

-- ---- two logs

later_logged : (l : List Entry) (e : Entry) → logged_later l e ≡ true → logged l e ≡ true
later_logged [] e q = q
later_logged (f ∷ l) e q = go (same_cell e.cell f.cell) (ltb e.tick f.tick) (later_logged l e) q
  where
    go : (a b : Bool) → (logged_later l e ≡ true → logged l e ≡ true) → ((a && b) || logged_later l e) ≡ true → (a || logged l e) ≡ true
    go true b k r = refl
    go false b k r = k r

-- an entry more of the first log, whose cell c is new there: it counts where the second has c
module _ (c : Cell) (a : List Cell) (new : among c a ≡ false) where
  abbrev one : Bool → ℕ
  one b = cond b 1 0

  entry_more : (l : List Entry) → none_twice (cells_of l) ≡ true
      → tally (λ e. same_cell e.cell c || among e.cell a) l ≡ one (among c (cells_of l)) + tally (λ e. among e.cell a) l
  entry_more [] q = refl
  entry_more (f ∷ l) q =
      let (fresh, rest) = and_parts (not (among f.cell (cells_of l))) (none_twice (cells_of l)) q in
      omega (arith, by_same (same_cell c f.cell) refl (not-true _ fresh), entry_more l rest)
    where
      by_same : (b : Bool) → same_cell c f.cell ≡ b → among f.cell (cells_of l) ≡ false
          → one (same_cell f.cell c || among f.cell a) + one (among c (cells_of l)) ≡ one (b || among c (cells_of l)) + one (among f.cell a)
      by_same true e fresh =
          let same = sym (same_eq c f.cell e) in
          let met : same_cell f.cell c ≡ true = same_sym f.cell c ∙ e in
          let gone : among c (cells_of l) ≡ false = ap (λ (d : Cell). among d (cells_of l)) (sym same) ∙ fresh in
          let other : among f.cell a ≡ false = ap (λ (d : Cell). among d a) same ∙ new in
          (λ i. one (met i || among f.cell a) + one (gone i)) ∙ sym (ap (λ (b : Bool). 1 + one b) other)
      by_same false e fresh =
          let apart = ap (λ (b : Bool). one (b || among f.cell a)) (same_sym f.cell c ∙ e) in
          omega (arith, apart)

pub both_sides : (a b : List Entry) → none_twice (cells_of a) ≡ true → none_twice (cells_of b) ≡ true → in_both a b ≡ in_both b a
both_sides [] b p q = sym (none b)
  where
    none : (b : List Entry) → tally (logged []) b ≡ 0
    none [] = refl
    none (e ∷ b) = omega (arith, none b)
both_sides (e ∷ a) b p q =
    let (fresh, rest) = and_parts (not (among e.cell (cells_of a))) (none_twice (cells_of a)) p in
    let more : in_both b (e ∷ a) ≡ cond (logged b e) 1 0 + in_both b a = entry_more e.cell (cells_of a) (not-true _ fresh) b q in
    omega (arith, more, both_sides a b rest q)

-- ---- the laws of the request

module _ (burned seen : List Entry) where
  -- cells in both and cells only burned are the laser's entries
  pub burned_total : in_both burned seen + only_in burned seen ≡ length burned
  burned_total = tally_all (logged seen) burned

  -- cells in both and cells only seen are the camera's
  pub seen_total : none_twice (cells_of burned) ≡ true → none_twice (cells_of seen) ≡ true → in_both burned seen + only_in seen burned ≡ length seen
  seen_total p q = omega (arith, both_sides burned seen p q, tally_all (logged burned) seen)

  -- those seen earlier are among both
  pub earlier_both : none_twice (cells_of burned) ≡ true → none_twice (cells_of seen) ≡ true → seen_earlier burned seen ≤ in_both burned seen
  earlier_both p q = omega (arith, both_sides burned seen p q, tally_stricter (logged_later burned) (logged burned) (later_logged burned) seen)

  -- four numbers that are these
  pub counts_are : {a b c d : ℕ} → a ≡ in_both burned seen → b ≡ only_in burned seen → c ≡ only_in seen burned → d ≡ seen_earlier burned seen
      → ◌≡◌ {A = LogCounts} (record {
        both = record { 0 = a };
        only_burned = record { 0 = b };
        only_seen = record { 0 = c };
        earlier = record { 0 = d };
      }) (counts_of burned seen)
  counts_are e f g h = λ i. record {
    both = record { 0 = e i };
    only_burned = record { 0 = f i };
    only_seen = record { 0 = g i };
    earlier = record { 0 = h i };
  }
