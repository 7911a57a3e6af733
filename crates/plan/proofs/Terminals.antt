-- What the tests of the choice say of the terminals, as facts.
use Prim.Native.Nat.{ℕ, ◌+◌, ◌%◌, ◌≤◌, ◌<◌}
use mathlib.Core.Path.{◌≡◌, refl, sym, ap, ◌∙◌}
use mathlib.Core.Logic.{◌⊎◌, inl, inr}
use mathlib.Core.Bool.{Bool, true, false, cond, not, ◌&&◌, true≢false}
use native.Mathlib.Omega.{arith}
use lib.Dec.{ltb}
use borrow.Author.Tests.{ltb-true, ltb-false, not-true, not-false}
use Rattle.grid.specs.declared.Panel.{Panel}
use Rattle.grid.specs.declared.Cell.{Cell}
use Rattle.grid.specs.Panel.{black, same_cell}
use Rattle.grid.proofs.Facts.{and_parts, cell_eq, same_eq, same_ne}
use Rattle.count.specs.Count.{odd}
use Rattle.plan.specs.Leg.{cell}
use Rattle.plan.specs.Plan.{critical, free, steep}
use Rattle.plan.proofs.Parity.{odd_yes, odd_no, is_odd, is_even}

-- two cells that differ, by their coordinates
abbrev pub Distinct : Cell → Cell → Type 0
Distinct a b = a.x ≡ b.x → a.y ≡ b.y → ⊥

-- no corner of the panel
pub record NotCorner (p : Panel) (c : Cell) : Type 0 where
  pub upper_left : c.x ≡ 1 → c.y ≡ 1 → ⊥
  pub upper_right : c.x ≡ p.width → c.y ≡ 1 → ⊥
  pub lower_left : c.x ≡ 1 → c.y ≡ p.height → ⊥
  pub lower_right : c.x ≡ p.width → c.y ≡ p.height → ⊥

-- ---- rows and columns between them

-- further apart in rows than in columns
abbrev pub Steep : Cell → Cell → Type 0
Steep s t = (t.x + s.y < s.x + t.y) ⊎ (t.x + t.y < s.x + s.y)

-- no further apart in rows than in columns
pub record Near (s t : Cell) : Type 0 where
  pub up : s.y + s.x ≤ t.y + t.x
  pub down : t.y + s.x ≤ s.y + t.x

module _ (s t : Cell) where
  first_test : Bool
  first_test = ltb (t.x + s.y) (s.x + t.y)

  pub steep_yes : steep s t ≡ true → Steep s t
  unfolding first_test
  steep_yes = go first_test refl
    where
      go : (b : Bool) → first_test ≡ b → cond b true (ltb (t.x + t.y) (s.x + s.y)) ≡ true → Steep s t
      go true e f = inl (ltb-true _ _ e)
      go false e f = inr (ltb-true _ _ f)

  pub steep_no : steep s t ≡ false → Near s t
  unfolding first_test
  steep_no = go first_test refl
    where
      go : (b : Bool) → first_test ≡ b → cond b true (ltb (t.x + t.y) (s.x + s.y)) ≡ false → Near s t
      go true e f = absurd (true≢false f)
      go false e f =
          let a = ltb-false (t.x + s.y) (s.x + t.y) e in
          let b = ltb-false (t.x + t.y) (s.x + s.y) f in
          record { up = omega arith; down = omega arith }

-- ---- the edge from (c, j) to (c + 1, j)

module _ (c j : ℕ) (s t : Cell) where
  pub free_yes : free c j s t ≡ true → Distinct (cell c j) s × Distinct (cell (c + 1) j) t
  free_yes e =
      let h = and_parts (not (same_cell (cell c j) s)) (not (same_cell (cell (c + 1) j) t)) e in (
        λ a b. same_ne (cell c j) s (not-true _ h.0) (cell_eq a b),
        λ a b. same_ne (cell (c + 1) j) t (not-true _ h.1) (cell_eq a b),
      )

  pub free_no : free c j s t ≡ false → ((c ≡ s.x) × (j ≡ s.y)) ⊎ ((c + 1 ≡ t.x) × (j ≡ t.y))
  free_no = go (same_cell (cell c j) s) refl
    where
      parts : (a b : Cell) → same_cell a b ≡ true → (a.x ≡ b.x) × (a.y ≡ b.y)
      parts a b e = let h = same_eq a b e in (ap (λ (c : Cell). c.x) h, ap (λ (c : Cell). c.y) h)

      go : (b : Bool) → same_cell (cell c j) s ≡ b → (not b && not (same_cell (cell (c + 1) j) t)) ≡ false
          → ((c ≡ s.x) × (j ≡ s.y)) ⊎ ((c + 1 ≡ t.x) × (j ≡ t.y))
      go true e f = inl (parts (cell c j) s e)
      go false e f = inr (parts (cell (c + 1) j) t (not-false _ f))

-- ---- m even, s black, t white

pub record Critical (m : ℕ) (s t : Cell) : Type 0 where
  pub even : m % 2 ≡ 0
  pub dark : (s.x + s.y) % 2 ≡ 1
  pub light : (t.x + t.y) % 2 ≡ 0

module _ (m : ℕ) (s t : Cell) where
  pub critical_yes : critical m s t ≡ true → Critical m s t
  critical_yes e =
      let h = and_parts (not (odd m)) (black s && not (black t)) e in
      let r = and_parts (black s) (not (black t)) h.1 in
      record {
        even = is_even m (not-true _ h.0);
        dark = is_odd (s.x + s.y) r.0;
        light = is_even (t.x + t.y) (not-true _ r.1);
      }

  pub critical_no : critical m s t ≡ false → Critical m s t → ⊥
  critical_no e c =
      let a = odd_no m c.even in
      let b = odd_yes (s.x + s.y) c.dark in
      let d = odd_no (t.x + t.y) c.light in
      true≢false ((λ i. not (sym a i) && (sym b i && not (sym d i))) ∙ e)
