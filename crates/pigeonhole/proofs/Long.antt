-- The pigeonhole principle on a panel, over any list of cells: one longer than the panel has cells holds a repeat or a cell off the panel. Each
-- cell of a list is on the panel or some is not, and each differs from those behind it or some does not; a list with neither fault has at most
-- mn cells (`at_most_area`).
use Prim.Native.Nat.{suc, ◌≤◌, ◌<◌}
use native.Mathlib.Omega.{arith}
use mathlib.Core.Path.{◌≡◌, refl, sym, ap, ◌∙◌}
use mathlib.Core.Bool.{Bool, true, false, false≢true}
use mathlib.Core.Logic.{◌≢◌, ◌↔◌, ◌⊎◌, inl, inr, ⊎_elim, ⊎_swap}
use mathlib.Core.List.{List, [], ◌∷◌}
use lib.ListN.{length, take}
use lib.Seq.{length-take-le, get_or-take}
use Rattle.grid.specs.declared.Panel.{Panel}
use Rattle.grid.specs.declared.Cell.{Cell}
use Rattle.grid.specs.Panel.{OnPanel, cell, on_panel, same_cell, area}
use Rattle.grid.specs.Track.{All, Once}
use Rattle.grid.proofs.Facts.{test_fails, on, is_on, same_eq, same_ne}
use Rattle.count.proofs.Pigeon.{at_most_area}
use Rattle.list.specs.List.{all_on, among, none_twice}
use Rattle.list.proofs.Indexed.{on_index, new_index, among_index}
use Rattle.list.proofs.Tracks.{all_on_lem, is_all_on, once, is_once}
use Rattle.pigeonhole.specs.Holds.{Any, HoldsCellOff, HoldsRepeat}

-- ---- one or the other

by_test : {A B : Type 0} (b : Bool) → (b ≡ true → A) → (b ≡ false → B) → A ⊎ B
by_test true f g = inl (f refl)
by_test false f g = inr (g refl)

on_or_off : (p : Panel) (c : Cell) → OnPanel p c ⊎ (¬ OnPanel p c)
on_or_off p c = by_test (on_panel p c) (on p c) (λ e o. false≢true (sym e ∙ is_on o))

other_or_same : (c d : Cell) → (c ≢ d) ⊎ (c ≡ d)
other_or_same c d = ⊎_swap (by_test (same_cell c d) (same_eq c d) (same_ne c d))

-- where each cell has one property or another, all have the one or any has the other
all_or_any : {P Q : Cell → Type 0} → ((c : Cell) → P c ⊎ Q c) → (l : List Cell) → All P l ⊎ Any Q l
all_or_any f [] = inl All.none
all_or_any {P} {Q} f (c ∷ l) = next (f c) (all_or_any f l)
  where
    next : P c ⊎ Q c → All P l ⊎ Any Q l → All P (c ∷ l) ⊎ Any Q (c ∷ l)
    next (inl e) (inl a) = inl (All.more e a)
    next (inl e) (inr h) = inr (record { place = suc h.place; there = omega (arith, h.there); has = h.has })
    next (inr e) r = inr (record { place = 0; there = omega arith; has = e })

once_or_repeat : (l : List Cell) → Once l ⊎ HoldsRepeat l
once_or_repeat [] = inl Once.none
once_or_repeat (c ∷ l) = next (all_or_any (other_or_same c) l) (once_or_repeat l)
  where
    next : All (λ d. c ≢ d) l ⊎ Any (λ d. c ≡ d) l → Once l ⊎ HoldsRepeat l → Once (c ∷ l) ⊎ HoldsRepeat (c ∷ l)
    next (inl a) (inl o) = inl (Once.more a o)
    next (inl a) (inr h) = inr (record {
      first = suc h.first;
      later = suc h.later;
      order = omega (arith, h.order);
      there = omega (arith, h.there);
      same = h.same;
    })
    next (inr h) r = inr (record { first = 0; later = suc h.place; order = omega arith; there = omega (arith, h.there); same = h.has })

-- ---- the theorem

pub long_list : (p : Panel) (l : List Cell) → area p < length l → HoldsRepeat l ⊎ HoldsCellOff p l
long_list p l h = go (once_or_repeat l) (all_or_any (on_or_off p) l)
  where
    go : Once l ⊎ HoldsRepeat l → All (OnPanel p) l ⊎ HoldsCellOff p l → HoldsRepeat l ⊎ HoldsCellOff p l
    go (inl o) (inl a) = absurd (omega (arith, h, at_most_area p o a))
    go (inl o) (inr f) = inr f
    go (inr r) a = inl r

-- in the words of the tests
pub tested_few : (p : Panel) (l : List Cell) → all_on p l ≡ true → none_twice l ≡ true → length l ≤ area p
tested_few p l on_panel_lem none-twice = at_most_area p (once l none-twice) (all_on_lem p l on_panel_lem)

-- ---- a list holds one exactly if its test fails

-- what is one or the other, and passes a test in the one case, is the other where the test fails
failed : {A B : Type 0} {b : Bool} → A ⊎ B → (A → b ≡ true) → b ≡ false → B
failed r passes e = ⊎_elim (λ a. absurd (false≢true (sym e ∙ passes a))) (λ b. b) r

pub off_tested : (p : Panel) (l : List Cell) → HoldsCellOff p l ↔ (all_on p l ≡ false)
off_tested p l = (λ h. test_fails (all_on p l) (λ e. h.has (on_index p l h.place e h.there)), failed (all_or_any (on_or_off p) l) is_all_on)

pub repeat_tested : (l : List Cell) → HoldsRepeat l ↔ (none_twice l ≡ false)
repeat_tested l = (λ h. test_fails (none_twice l) (again h), failed (once_or_repeat l) is_once)
  where
    -- the later cell would be new, and stands before
    again : HoldsRepeat l → none_twice l ≢ true
    again h e =
        let before = take h.later l in
        let size = length-take-le h.later l (omega (arith, h.there)) in
        let there = among_index before h.first (omega (arith, size, h.order)) in
        let cell-there = get_or-take h.later l h.first (cell 0 0) h.order ∙ h.same in
        false≢true (sym (new_index l h.later e h.there) ∙ ap (λ (c : Cell). among c before) (sym cell-there) ∙ there)
