-- Cells and panels: the Boolean tests of specs/Panel.antt as facts, and the other way round; when cells are equal, different, neighbours.
use Prim.Native.Nat.{ℕ, ◌+◌, ◌-◌, ◌≤◌}
use mathlib.Core.Path.{◌≡◌, refl, sym, ap, ◌∙◌}
use mathlib.Core.Logic.{◌≢◌, ◌⊎◌, inl, inr}
use mathlib.Core.Bool.{Bool, true, false, ◌&&◌, ◌||◌, true≢false}
use native.Mathlib.Nat.{mul-le-mul}
use native.Mathlib.Omega.{arith}
use lib.Dec.{leb, eqb}
use borrow.Author.Tests.{leb-true, le-leb, eqb-true, eqb-false, eq-eqb}
use Rattle.grid.specs.declared.Panel.{Panel}
use Rattle.grid.specs.declared.Cell.{Cell}
use Rattle.grid.specs.Panel.{min_pitch, max_pitch, max_side, between, up_to, good_sides, good_pitch, good_panel, GoodSides, GoodPanel}
use Rattle.grid.specs.Panel.{area, on_panel, OnPanel, same_cell, dist, apart, Neighbours, neighbours}

-- ---- what cannot be

-- `cc` proves 0 ≡ 1 from two constructors that are said to be equal
pub clash {ℓ} : {A : Type ℓ} → ◌≡◌ {A = ℕ} 0 1 → A
clash e = absurd (omega arith)

-- a test that cannot be passed fails
pub test_fails : (b : Bool) → b ≢ true → b ≡ false
test_fails true n = absurd (n refl)
test_fails false n = refl

-- ---- Boolean "and" and "or"

pub and_left : (a b : Bool) → (a && b) ≡ true → a ≡ true
and_left true b e = refl
and_left false b e = e

pub and_right : (a b : Bool) → (a && b) ≡ true → b ≡ true
and_right true b e = e
and_right false true e = refl
and_right false false e = e

pub and_parts : (a b : Bool) → (a && b) ≡ true → (a ≡ true) × (b ≡ true)
and_parts a b e = (and_left a b e, and_right a b e)

pub and_both : {a b : Bool} → a ≡ true → b ≡ true → (a && b) ≡ true
and_both p q = λ i. p i && q i

pub or_cases : (a b : Bool) → (a || b) ≡ true → (a ≡ true) ⊎ (b ≡ true)
or_cases true b e = inl refl
or_cases false b e = inr e

pub neither : (a b : Bool) → (a || b) ≡ false → (a ≡ false) × (b ≡ false)
neither true b e = absurd (true≢false e)
neither false b e = (refl, e)

-- ---- panels

-- a number in a range
pub in_range : (low high a : ℕ) → between low high a ≡ true → (low ≤ a) × (a ≤ high)
in_range low high a e =
    let (l, h) = and_parts (leb low a) (leb a high) e in
    (leb-true low a l, leb-true a high h)

pub is_in_range : {low high a : ℕ} → low ≤ a → a ≤ high → between low high a ≡ true
is_in_range l h = and_both (le-leb _ _ l) (le-leb _ _ h)

pub sides : (p : Panel) → good_sides p ≡ true → GoodSides p
sides p e =
    let (w, h) = and_parts (up_to max_side p.width) (up_to max_side p.height) e in
    let (wide, widest) = in_range 1 max_side p.width w in
    let (high, highest) = in_range 1 max_side p.height h in
    record { wide = wide; widest = widest; high = high; highest = highest }

pub is_sides : {p : Panel} → GoodSides p → good_sides p ≡ true
is_sides g = and_both (is_in_range g.wide g.widest) (is_in_range g.high g.highest)

pub good : (p : Panel) → good_panel p ≡ true → GoodPanel p
good p e =
    let (s, q) = and_parts (good_sides p) (good_pitch p) e in
    let (finest, coarsest) = in_range min_pitch max_pitch p.pitch q in
    record { sides = sides p s; finest = finest; coarsest = coarsest }

pub is_good : {p : Panel} → GoodPanel p → good_panel p ≡ true
is_good g = and_both (is_sides g.sides) (is_in_range g.finest g.coarsest)

-- it has at most 128 by 128 cells
pub area_small : {p : Panel} → GoodSides p → area p ≤ 16384
area_small g = mul-le-mul g.widest g.highest

pub on : (p : Panel) (c : Cell) → on_panel p c ≡ true → OnPanel p c
on p c e =
    let (w, h) = and_parts (up_to p.width c.x) (up_to p.height c.y) e in
    let (left, right) = in_range 1 p.width c.x w in
    let (top, bottom) = in_range 1 p.height c.y h in
    record { left = left; right = right; top = top; bottom = bottom }

pub is_on : {p : Panel} {c : Cell} → OnPanel p c → on_panel p c ≡ true
is_on o = and_both (is_in_range o.left o.right) (is_in_range o.top o.bottom)

-- ---- equal cells

pub cell_eq : {a b : Cell} → a.x ≡ b.x → a.y ≡ b.y → a ≡ b
cell_eq p q = λ i. record { x = p i; y = q i }

pub same_eq : (a b : Cell) → same_cell a b ≡ true → a ≡ b
same_eq a b e = cell_eq (eqb-true _ _ (and_left (eqb a.x b.x) (eqb a.y b.y) e)) (eqb-true _ _ (and_right (eqb a.x b.x) (eqb a.y b.y) e))

pub eq_same : {a b : Cell} → a ≡ b → same_cell a b ≡ true
eq_same {a} {b} e = and_both (eq-eqb a.x b.x (ap (λ (c : Cell). c.x) e)) (eq-eqb a.y b.y (ap (λ (c : Cell). c.y) e))

pub same_ne : (a b : Cell) → same_cell a b ≡ false → a ≢ b
same_ne a b e q = true≢false (sym (eq_same q) ∙ e)

pub ne_same : (a b : Cell) → a ≢ b → same_cell a b ≡ false
ne_same a b n = test_fails (same_cell a b) (λ e. n (same_eq a b e))

-- different in a coordinate
pub ne_x : {a b : Cell} → a.x ≢ b.x → a ≢ b
ne_x h e = h (ap (λ (c : Cell). c.x) e)

pub ne_y : {a b : Cell} → a.y ≢ b.y → a ≢ b
ne_y h e = h (ap (λ (c : Cell). c.y) e)

-- two different cells differ in a coordinate
pub ne_cases : (a b : Cell) → a ≢ b → (a.x ≢ b.x) ⊎ (a.y ≢ b.y)
ne_cases a b n = go (eqb a.x b.x) refl
  where
    go : (r : Bool) → eqb a.x b.x ≡ r → (a.x ≢ b.x) ⊎ (a.y ≢ b.y)
    go true e = inr (λ q. n (cell_eq (eqb-true _ _ e) q))
    go false e = inl (eqb-false _ _ e)

-- ---- neighbours

-- one step in x, or one in y: the distance written out
pub beside : {a b : Cell} → (a.x - b.x) + (b.x - a.x) + ((a.y - b.y) + (b.y - a.y)) ≡ 1 → Neighbours a b
unfolding apart dist
beside e = record { one = e }

pub beside_is : {a b : Cell} → Neighbours a b → (a.x - b.x) + (b.x - a.x) + ((a.y - b.y) + (b.y - a.y)) ≡ 1
unfolding apart dist
beside_is h = h.one

-- to the right, and below
pub beside_x : {a b : Cell} → a.x + 1 ≡ b.x → a.y ≡ b.y → Neighbours a b
beside_x p q = beside (omega arith)

pub beside_y : {a b : Cell} → a.x ≡ b.x → a.y + 1 ≡ b.y → Neighbours a b
beside_y p q = beside (omega arith)

pub dist_sym : (a b : ℕ) → dist a b ≡ dist b a
unfolding dist
dist_sym a b = omega arith

pub apart_sym : (a b : Cell) → apart a b ≡ apart b a
unfolding apart
apart_sym a b = λ i. dist_sym a.x b.x i + dist_sym a.y b.y i

pub beside_sym : {a b : Cell} → Neighbours a b → Neighbours b a
beside_sym {a} {b} h = record { one = apart_sym b a ∙ h.one }

-- the test
pub next : {a b : Cell} → neighbours a b ≡ true → Neighbours a b
next e = record { one = eqb-true _ _ e }

pub is_next : {a b : Cell} → Neighbours a b → neighbours a b ≡ true
is_next h = eq-eqb _ _ h.one
