-- What a check that refuses nothing says of each of its tests, taken apart from the front; and the tests that the calls share, as facts.
use Rattle.std.specs.Prelude.{Ok, Err}
use mathlib.Core.Path.{◌≡◌, refl, sym, subst}
use mathlib.Core.Bool.{Bool, true, false}
use Rattle.grid.specs.declared.Panel.{Panel}
use Rattle.grid.specs.declared.Cell.{Cell}
use Rattle.grid.specs.declared.Refusal.{Refusal}
use Rattle.grid.specs.declared.Refusal.TheVariants.{Side, Pitch, EntryOff, ExitOff}
use Rattle.grid.specs.Check.{Check}
use Rattle.grid.specs.Panel.{good_sides, good_pitch, good_panel, on_panel, OnPanel, GoodPanel}
use Rattle.grid.specs.Check.{expect, after, check_panel, check_entry, check_order}
use Rattle.grid.proofs.Tests.{expect_yes, after_good}
use Rattle.grid.proofs.Facts.{and_parts, and_both, good, is_good, on, is_on}

abbrev IsFine : Check → Type 0
IsFine (Ok tt) = Unit {0}
IsFine (Err r) = ⊥

-- a refusal is not "good"
pub not_good {ℓ} : {A : Type ℓ} {r : Refusal} → ◌≡◌ {A = Check} (Err r) (Ok tt) → A
not_good e = absurd (subst IsFine (sym e) tt)

pub expect_passed : (b : Bool) (r : Refusal) (k : Check) → expect b r k ≡ Ok tt → b ≡ true
expect_passed true r k e = refl
expect_passed false r k e = not_good e

pub expect_rest : (b : Bool) (r : Refusal) (k : Check) → expect b r k ≡ Ok tt → k ≡ Ok tt
expect_rest true r k e = e
expect_rest false r k e = not_good e

pub after_passed : (c k : Check) → after c k ≡ Ok tt → c ≡ Ok tt
after_passed (Ok tt) k e = refl
after_passed (Err r) k e = not_good e

pub after_rest : (c k : Check) → after c k ≡ Ok tt → k ≡ Ok tt
after_rest (Ok tt) k e = e
after_rest (Err r) k e = not_good e

-- both tests of a panel, as one
pub panel_passed : (p : Panel) → check_panel p ≡ Ok tt → good_panel p ≡ true
panel_passed p e =
    let pitch = expect (good_pitch p) Pitch (Ok tt) in
    and_both (expect_passed (good_sides p) Side pitch e) (expect_passed (good_pitch p) Pitch (Ok tt) (expect_rest (good_sides p) Side pitch e))

pub panel_passes : (p : Panel) → good_panel p ≡ true → check_panel p ≡ Ok tt
panel_passes p e =
    let (s, q) = and_parts (good_sides p) (good_pitch p) e in
    sym (expect_yes _ _ s (expect_yes _ _ q refl))

pub good_panel_lem : (p : Panel) → check_panel p ≡ Ok tt → GoodPanel p
good_panel_lem p e = good p (panel_passed p e)

pub good_entry : (p : Panel) (s : Cell) → check_entry p s ≡ Ok tt → GoodPanel p × OnPanel p s
good_entry p s e =
    let here = expect (on_panel p s) EntryOff (Ok tt) in
    (good_panel_lem p (after_passed (check_panel p) here e), on p s (expect_passed (on_panel p s) EntryOff (Ok tt) (after_rest (check_panel p) here e)))

-- an order whose panel is good and whose terminals are cells of it, equal or not: tests 1, 18, 2, 3
pub record GoodOrder (p : Panel) (s t : Cell) : Type 0 where
  pub panel : GoodPanel p
  pub entry : OnPanel p s
  pub exit : OnPanel p t

pub good_order : (p : Panel) (s t : Cell) → check_order p s t ≡ Ok tt → GoodOrder p s t
good_order p s t e =
    let here = expect (on_panel p t) ExitOff (Ok tt) in
    let front = good_entry p s (after_passed (check_entry p s) here e) in
    let back = after_rest (check_entry p s) here e in
    record { panel = front.0; entry = front.1; exit = on p t (expect_passed (on_panel p t) ExitOff (Ok tt) back) }

pub is_order : {p : Panel} {s t : Cell} → GoodOrder p s t → (Ok tt) ≡ check_order p s t
is_order {p} {s} {t} o =
    after_good _ (sym (after_good _ (panel_passes p (is_good o.panel)) (expect_yes _ _ (is_on o.entry) refl)))
    (expect_yes _ _ (is_on o.exit) refl)
