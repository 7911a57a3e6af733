-- F3 and C2 as facts about numbers.
use Prim.Native.Nat.{ℕ, ◌+◌, ◌*◌, ◌/◌, ◌%◌, ◌≤◌, ◌<◌}
use mathlib.Core.Path.{◌≡◌}
use mathlib.Core.Bool.{Bool, true, false, not, ◌&&◌, ◌||◌}
use mathlib.Core.Logic.{◌⊎◌, inl, inr, ⊎_elim}
use native.Mathlib.Omega.{arith}
use lib.Dec.{leb, eqb}
use borrow.Author.Tests.{eqb-true, leb-true, not-true}
use Rattle.grid.specs.declared.Panel.{Panel}
use Rattle.grid.specs.declared.Cell.{Cell}
use Rattle.grid.specs.Panel.{black}
use Rattle.grid.proofs.Facts.{test_fails, and_left, and_parts, or_cases}
use Rattle.count.specs.Count.{area, odd, f3, c2}
use Rattle.count.proofs.Colour.{is_odd, is_even}

-- F3: three rows, m even, s black, t white, and the first odd column from s on is left of t
pub record ThreeApart (p : Panel) (s t : Cell) : Type 0 where
  pub rows : p.height ≡ 3
  pub even : p.width % 2 ≡ 0
  pub dark : (s.x + s.y) % 2 ≡ 1
  pub light : (t.x + t.y) % 2 ≡ 0
  pub odd_column : s.x + (s.x + 1) % 2 < t.x

-- (x, y) is black, and z is two columns further or more, or one where y is a row that is even
odd_column : (x y z row : ℕ) (b : Bool) → (x + y) % 2 ≡ 1 → (leb (x + 2) z || (eqb (x + 1) z && (eqb y row && b))) ≡ true → row % 2 ≡ 0
    → x + (x + 1) % 2 < z
odd_column x y z row b dark e even = ⊎_elim far near (or_cases (leb (x + 2) z) _ e)
  where
    far : leb (x + 2) z ≡ true → x + (x + 1) % 2 < z
    far h = let k : x + 2 ≤ z = leb-true _ _ h in omega arith

    near : (eqb (x + 1) z && (eqb y row && b)) ≡ true → x + (x + 1) % 2 < z
    near h =
        let (next, two) = and_parts (eqb (x + 1) z) _ h in
        let k : x + 1 ≡ z = eqb-true _ _ next in
        let i : y ≡ row = eqb-true _ _ (and_left (eqb y row) b two) in
        omega arith

pub f3_facts : (p : Panel) (s t : Cell) → f3 p s t ≡ true → ThreeApart p s t
unfolding f3
f3_facts p s t e =
    let (three, e1) = and_parts (eqb p.height 3) _ e in
    let (even, e2) = and_parts (not (odd p.width)) _ e1 in
    let (dark, e3) = and_parts (black s) _ e2 in
    let (light, far) = and_parts (not (black t)) _ e3 in
    let d : (s.x + s.y) % 2 ≡ 1 = is_odd _ dark in
    record {
      rows = eqb-true _ _ three;
      even = is_even _ (not-true _ even);
      dark = d;
      light = is_even _ (not-true _ light);
      odd_column = odd_column s.x s.y t.x _ _ d far (omega arith);
    }

pub no_f3 : (p : Panel) (s t : Cell) → (ThreeApart p s t → ⊥) → f3 p s t ≡ false
no_f3 p s t n = test_fails (f3 p s t) (λ e. n (f3_facts p s t e))

-- so mn is even
pub even_area : {p : Panel} {s t : Cell} → ThreeApart p s t → area p % 2 ≡ 0
even_area {p} f =
    let w : p.width ≡ 2 * (p.width / 2) = omega (arith, f.even) in
    let a : area p ≡ 2 * (p.width / 2) * 3 = λ i. w i * f.rows i in
    omega arith

-- C2: mn odd and both terminals black, or F3
pub c2_cases : (p : Panel) (s t : Cell) → c2 p s t ≡ true → ((odd (area p) ≡ true) × (black s ≡ true) × (black t ≡ true)) ⊎ ThreeApart p s t
unfolding c2
c2_cases p s t e =
    ⊎_elim
    (λ h.
    let (o, both) = and_parts (odd (area p)) (black s && black t) h in
    let (a, b) = and_parts (black s) (black t) both in
    inl (o, a, b))
    (λ h. inr (f3_facts p s t h))
    (or_cases _ _ e)
