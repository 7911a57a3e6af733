-- Letters and steps undo each other: the letter of a step to a neighbour leads to that neighbour, and a letter is that of the step
-- it makes. Along a list and along letters, by induction.
use Prim.Native.Nat.{ℕ, ◌+◌, ◌-◌, ◌≤◌}
use mathlib.Core.Path.{◌≡◌, refl, sym, ap, ap₂, ◌∙◌, subst⁻¹}
use mathlib.Core.Bool.{Bool, true, false, cond}
use mathlib.Core.Logic.{⊎_elim}
use mathlib.Core.List.{List, [], ◌∷◌}
use native.Mathlib.Omega.{arith}
use lib.Dec.{ltb, eqb}
use borrow.Author.Tests.{eqb-true, eq-eqb, lt-ltb, le-ltb, ltb-true, ltb-false}
use Rattle.grid.specs.declared.Cell.{Cell}
use Rattle.grid.specs.declared.Panel.{Panel}
use Rattle.grid.specs.Panel.{dist, apart, neighbours, on_panel}
use Rattle.grid.proofs.Facts.{on as on-panel-is, cell_eq, and_parts, and_both, or_cases}
use Rattle.grid.proofs.Tests.{cond_yes, cond_no}
use Rattle.list.specs.List.{all_on, steps_from}
use Rattle.step_letters.specs.Letters.{north, east, south, west, letter, letters_from, known, stepped, all_known, walk_on, walk_from}

-- ---- letters

pub letter_known : (a b : Cell) → known (letter a b) ≡ true
unfolding known letter
letter_known a b = by_case (ltb b.y a.y) (ltb a.x b.x) (ltb a.y b.y)
  where
    by_case : (n e s : Bool) → known (cond n north (cond e east (cond s south west))) ≡ true
    by_case true e s = refl
    by_case false true s = refl
    by_case false false true = refl
    by_case false false false = refl

-- what holds of the four letters holds of every known byte
pub by_letter : (P : ℕ → Type 0) → P north → P east → P south → P west → (b : ℕ) → known b ≡ true → P b
unfolding known
by_letter P n e s w b k =
    ⊎_elim (at north n)
    (λ k₁. ⊎_elim (at east e)
    (λ k₂. ⊎_elim (at south s) (at west w) (or_cases (eqb b south) (eqb b west) k₂))
    (or_cases (eqb b east) _ k₁))
    (or_cases (eqb b north) _ k)
  where
    at : (a : ℕ) → P a → eqb b a ≡ true → P b
    at a p h = subst⁻¹ P (eqb-true b a h) p

-- ---- steps

-- where a step from a to b goes, by its letter
pub data Goes (a b : Cell) : ℕ → Type 0 where
  up : a.x ≡ b.x → b.y + 1 ≡ a.y → Goes a b north
  right : a.x + 1 ≡ b.x → a.y ≡ b.y → Goes a b east
  down : a.x ≡ b.x → a.y + 1 ≡ b.y → Goes a b south
  left : b.x + 1 ≡ a.x → a.y ≡ b.y → Goes a b west

pub goes : (a b : Cell) → neighbours a b ≡ true → Goes a b (letter a b)
unfolding letter apart dist
goes a b h = at (ltb b.y a.y) (ltb a.x b.x) (ltb a.y b.y) refl refl refl
  where
    one : dist a.x b.x + dist a.y b.y ≡ 1
    one = eqb-true _ 1 h

    at : (n e s : Bool) → ltb b.y a.y ≡ n → ltb a.x b.x ≡ e → ltb a.y b.y ≡ s
        → Goes a b (cond n north (cond e east (cond s south west)))
    at true e s h i j = let n = ltb-true b.y a.y h in up (omega (arith, one)) (omega (arith, one))
    at false true s h i j = let e = ltb-true a.x b.x i in right (omega (arith, one)) (omega (arith, one))
    at false false true h i j = let s = ltb-true a.y b.y j in down (omega (arith, one)) (omega (arith, one))
    at false false false h i j =
        let n = ltb-false b.y a.y h in
        let e = ltb-false a.x b.x i in
        let s = ltb-false a.y b.y j in
        left (omega (arith, one)) (omega (arith, one))

leads_to : {a b : Cell} {k : ℕ} → Goes a b k → stepped a k ≡ b
unfolding stepped
leads_to (up x y) = cell_eq x (omega arith)
leads_to (right x y) = cell_eq x y
leads_to (down x y) = cell_eq x y
leads_to (left x y) = cell_eq (omega arith) y

pub stepped_letter : (a b : Cell) → neighbours a b ≡ true → stepped a (letter a b) ≡ b
stepped_letter a b e = leads_to (goes a b e)

pub letter_stepped : (c : Cell) → 1 ≤ c.x → 1 ≤ c.y → (b : ℕ) → known b ≡ true → letter c (stepped c b) ≡ b
unfolding stepped letter
letter_stepped c hx hy =
    by_letter (λ (b : ℕ). letter c (stepped c b) ≡ b)
    (sym (cond_yes _ _ (lt-ltb (c.y - 1) c.y (omega arith)) refl))
    (sym (cond_no _ _ same_row (cond_yes _ _ (lt-ltb c.x (c.x + 1) (omega arith)) refl)))
    (sym (cond_no _ _ (le-ltb (c.y + 1) c.y (omega arith)) (cond_no _ _ same_column (cond_yes _ _ (lt-ltb c.y (c.y + 1) (omega arith)) refl))))
    (sym (cond_no _ _ same_row (cond_no _ _ (le-ltb c.x (c.x - 1) (omega arith)) (cond_no _ _ same_row refl))))
  where
    same_row : ltb c.y c.y ≡ false
    same_row = le-ltb c.y c.y (omega arith)

    same_column : ltb c.x c.x ≡ false
    same_column = le-ltb c.x c.x (omega arith)

pub next_stepped : (c : Cell) → 1 ≤ c.x → 1 ≤ c.y → (b : ℕ) → known b ≡ true → neighbours c (stepped c b) ≡ true
unfolding stepped apart dist
next_stepped c hx hy =
    by_letter (λ (b : ℕ). neighbours c (stepped c b) ≡ true)
    (eq-eqb (dist c.x c.x + dist c.y (c.y - 1)) 1 (omega arith))
    (eq-eqb (dist c.x (c.x + 1) + dist c.y c.y) 1 (omega arith))
    (eq-eqb (dist c.x c.x + dist c.y (c.y + 1)) 1 (omega arith))
    (eq-eqb (dist c.x (c.x - 1) + dist c.y c.y) 1 (omega arith))

-- ---- lists

pub known_letters : (a : Cell) (l : List Cell) → all_known (letters_from a l) ≡ true
known_letters a [] = refl
known_letters a (b ∷ l) = and_both (letter_known a b) (known_letters b l)

-- the letters of a list of neighbours lead over that list
pub walk_letters : (a : Cell) (l : List Cell) → steps_from a l ≡ true → walk_on a (letters_from a l) ≡ l
walk_letters a [] e = refl
walk_letters a (b ∷ l) e =
    let h = and_parts (neighbours a b) (steps_from b l) e in
    ap (λ (d : Cell). d ∷ walk_on d (letters_from b l)) (stepped_letter a b h.0) ∙ ap (λ (k : List Cell). b ∷ k) (walk_letters b l h.1)

-- letters that stay on a panel are those of the list that they lead over, and its cells are neighbours
pub letters_walk : (p : Panel) (c : Cell) (l : List ℕ) → all_known l ≡ true → all_on p (walk_from c l) ≡ true
    → (letters_from c (walk_on c l) ≡ l) × (steps_from c (walk_on c l) ≡ true)
letters_walk p c [] k e = (refl, refl)
letters_walk p c (b ∷ l) k e =
    let d = stepped c b in
    let (is, are) = and_parts (known b) (all_known l) k in
    let (here, there) = and_parts (on_panel p c) (all_on p (walk_from d l)) e in
    let at = on-panel-is p c here in
    let (letters, steps) = letters_walk p d l are there in (
      ap₂ (λ (x : ℕ) (k : List ℕ). x ∷ k) (letter_stepped c at.left at.top b is) letters,
      and_both (next_stepped c at.left at.top b is) steps,
    )
