-- The order of ticks: of a log whose ticks rise, the entries ahead of a tick are those above it. So a cell is logged later than an entry exactly
-- if it stands among the entries ahead of the entry's tick.
use Prim.Native.Nat.{ℕ, ◌≤◌, ◌<◌}
use native.Mathlib.Omega.{arith}
use native.Mathlib.Nat.{le_refl}
use mathlib.Core.Path.{◌≡◌, refl, ap, ◌∙◌}
use mathlib.Core.Bool.{Bool, true, ◌&&◌, ◌||◌, and-true, and-false}
use mathlib.Core.List.{List, [], ◌∷◌}
use lib.Dec.{leb}
use borrow.Author.Tests.{leb-true, leb-false, le-leb, lt-ltb, le-ltb}
use Rattle.grid.specs.Panel.{same_cell}
use Rattle.grid.proofs.Facts.{and_parts, and_both}
use Rattle.grid.proofs.Tests.{both_branches, cond_yes}
use Rattle.log_entries.specs.declared.Entry.{Entry}
use Rattle.log_entries.specs.Log.{rises_from, rises}
use Rattle.logs.specs.Counts.{logged, logged_later}
use Rattle.logs.specs.Walk.{ahead}

-- passing more than was passed is passing all at once
pub ahead_on : {t u : ℕ} → t ≤ u → (l : List Entry) → ahead u (ahead t l) ≡ ahead u l
ahead_on h [] = refl
ahead_on {t} {u} h (e ∷ l) =
    both_branches (λ (k : List Entry). ahead u k ≡ ahead u (e ∷ l)) (leb e.tick t) (ahead t l) (e ∷ l)
    (λ q. let low : e.tick ≤ u = omega (arith, leb-true e.tick t q) in cond_yes _ _ (le-leb e.tick u low) (ahead_on h l))
    (λ q. refl)

-- where every tick is above the entry's, each cell of the log is later
above : (e : Entry) (t : ℕ) → e.tick < t → (l : List Entry) → rises_from t l ≡ true → logged_later l e ≡ logged l e
above e t h [] r = refl
above e t h (f ∷ l) r =
    let (first, rest) = and_parts (leb t f.tick) (rises_from f.tick l) r in
    let more : e.tick < f.tick = omega (arith, leb-true t f.tick first) in
    λ i. (ap (λ (b : Bool). same_cell e.cell f.cell && b) (lt-ltb e.tick f.tick more) ∙ and-true (same_cell e.cell f.cell)) i
    || above e f.tick more l rest i

-- an entry that is passed is not later, and the others are above
later_from : (e : Entry) (t : ℕ) (l : List Entry) → rises_from t l ≡ true → logged_later l e ≡ logged (ahead e.tick l) e
later_from e t [] r = refl
later_from e t (f ∷ l) r =
    let (first, rest) = and_parts (leb t f.tick) (rises_from f.tick l) r in
    both_branches (λ (k : List Entry). logged_later (f ∷ l) e ≡ logged k e) (leb f.tick e.tick) (ahead e.tick l) (f ∷ l)
    (λ q. not_later (leb-true _ _ q) ∙ later_from e f.tick l rest)
    (λ q. above e f.tick (leb-false _ _ q) (f ∷ l) (and_both (le-leb f.tick f.tick (le_refl f.tick)) rest))
  where
    not_later : f.tick ≤ e.tick → logged_later (f ∷ l) e ≡ logged_later l e
    not_later h =
        ap (λ (b : Bool). (same_cell e.cell f.cell && b) || logged_later l e) (le-ltb e.tick f.tick h)
        ∙ ap (λ (b : Bool). b || logged_later l e) (and-false (same_cell e.cell f.cell))

pub later_is_ahead : (e : Entry) (l : List Entry) → rises l ≡ true → logged_later l e ≡ logged (ahead e.tick l) e
later_is_ahead e l r = later_from e 0 l r
