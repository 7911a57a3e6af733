-- The cells that are drawn to: the first of them, which is ahead where the direction stays (`goal`), and the later ones; and how the step
-- towards it and the step straight on find the next cell of the list.
use Prim.Native.Nat.{ℕ, ◌+◌, ◌-◌, ◌*◌, ◌≤◌, ◌<◌}
use mathlib.Core.Path.{◌≡◌, refl, sym, ap, ap₂, subst, ◌∙◌}
use mathlib.Core.Bool.{Bool, true, false, cond}
use mathlib.Core.Logic.{◌≢◌}
use mathlib.Core.List.{List, [], ◌∷◌}
use native.Mathlib.Omega.{arith}
use lib.Dec.{ltb, eqb}
use borrow.Author.Tests.{eqb-true, eq-eqb, ltb-true, ltb-false}
use Rattle.grid.specs.declared.Panel.{Panel}
use Rattle.grid.specs.declared.Cell.{Cell}
use Rattle.grid.specs.Panel.{OnPanel, Neighbours}
use Rattle.grid.proofs.Facts.{and_parts, and_both, cell_eq, beside, beside_is}
use Rattle.grid.proofs.Tests.{both_branches, cond_yes, cond_no}
use Rattle.gerber.specs.Layer.{straight, turns_from}
use Rattle.gerber_trace.specs.Trace.{ahead, towards}

-- ---- where the direction stays

-- in both coordinates b is the middle
pub middle : (a b c : Cell) → straight a b c ≡ true → (a.x + c.x ≡ 2 * b.x) × (a.y + c.y ≡ 2 * b.y)
unfolding straight
middle a b c e =
    let (x, y) = and_parts (eqb (a.x + c.x) (2 * b.x)) (eqb (a.y + c.y) (2 * b.y)) e in
    (eqb-true _ _ x, eqb-true _ _ y)

pub is_straight : (a b c : Cell) → a.x + c.x ≡ 2 * b.x → a.y + c.y ≡ 2 * b.y → straight a b c ≡ true
unfolding straight
is_straight a b c x y = and_both (eq-eqb _ _ x) (eq-eqb _ _ y)

-- the next cell is the one straight on
pub straight_ahead : (a b c : Cell) → straight a b c ≡ true → ahead a b ≡ c
straight_ahead a b c e = let m = middle a b c e in cell_eq (omega arith) (omega arith)

-- steps of the same size
even_steps : (a b c : ℕ) → a + c ≡ 2 * b → (b - c) + (c - b) ≡ (a - b) + (b - a)
even_steps a b c e = omega arith

-- the cell straight on, if it is on a panel, keeps the direction, and is a neighbour where b is one of a
module _ {p : Panel} (a b : Cell) (o : OnPanel p (ahead a b)) where
  pub ahead_straight : straight a b (ahead a b) ≡ true
  ahead_straight = is_straight a b (ahead a b) (omega (arith, o.left)) (omega (arith, o.top))

  pub ahead_beside : Neighbours a b → Neighbours b (ahead a b)
  ahead_beside n =
      let m = middle a b (ahead a b) ahead_straight in
      beside (ap₂ ◌+◌ (even_steps a.x b.x _ m.0) (even_steps a.y b.y _ m.1) ∙ beside_is n)

-- ---- the first cell that is drawn to, and the later ones

abbrev pub goal : Cell → Cell → List Cell → Cell
goal a b [] = b
goal a b (c ∷ l) = cond (straight a b c) (goal b c l) b

abbrev pub later : Cell → Cell → List Cell → List Cell
later a b [] = []
later a b (c ∷ l) = cond (straight a b c) (later b c l) (goal b c l ∷ later b c l)

pub turns_split : (a b : Cell) (l : List Cell) → turns_from a b l ≡ goal a b l ∷ later a b l
turns_split a b [] = refl
turns_split a b (c ∷ l) = go (straight a b c) refl (turns_split b c l)
  where
    split : Bool → List Cell
    split t = cond t (goal b c l) b ∷ cond t (later b c l) (goal b c l ∷ later b c l)

    go : (t : Bool) → straight a b c ≡ t → turns_from b c l ≡ goal b c l ∷ later b c l
        → turns_from a b (c ∷ l) ≡ goal a b (c ∷ l) ∷ later a b (c ∷ l)
    go true e f = ap (λ (t : Bool). cond t (turns_from b c l) (b ∷ turns_from b c l)) e ∙ f ∙ sym (ap split e)
    go false e f = ap (λ (t : Bool). cond t (turns_from b c l) (b ∷ turns_from b c l)) e ∙ ap (λ (k : List Cell). b ∷ k) f ∙ sym (ap split e)

-- in a coordinate k that goes on evenly where the direction stays, the goal is not behind
module _ (k : Cell → ℕ) (even : (a b c : Cell) → straight a b c ≡ true → k a + k c ≡ 2 * k b) where
  pub goal_after : (a b : Cell) (l : List Cell) → k a ≤ k b → k b ≤ k (goal a b l)
  goal_after a b [] h = omega arith
  goal_after a b (c ∷ l) h =
      both_branches (λ (g : Cell). k b ≤ k g) (straight a b c) (goal b c l) b
      (λ e. let m = even a b c e in omega (arith, goal_after b c l (omega arith)))
      (λ e. omega arith)

  pub goal_before : (a b : Cell) (l : List Cell) → k b ≤ k a → k (goal a b l) ≤ k b
  goal_before a b [] h = omega arith
  goal_before a b (c ∷ l) h =
      both_branches (λ (g : Cell). k g ≤ k b) (straight a b c) (goal b c l) b
      (λ e. let m = even a b c e in omega (arith, goal_before b c l (omega arith)))
      (λ e. omega arith)

-- of one coordinate of b, of the next cell c and of a goal g beyond c: it changes from b to c as it does from b to g
record Way (b c g : ℕ) : Type 0 where
  rises : b < g → b < c
  falls : g < b → c < b
  stays : b ≡ g → b ≡ c

way : (b c g : ℕ) → (b ≤ c → c ≤ g) → (c ≤ b → g ≤ c) → Way b c g
way b c g after before = record { rises = up (ltb b c) refl; falls = down (ltb c b) refl; stays = level (ltb b c) refl }
  where
    up : (t : Bool) → ltb b c ≡ t → b < g → b < c
    up true e h = ltb-true b c e
    up false e h = let l = ltb-false b c e in absurd (omega (arith, before l))

    down : (t : Bool) → ltb c b ≡ t → g < b → c < b
    down true e h = ltb-true c b e
    down false e h = let l = ltb-false c b e in absurd (omega (arith, after l))

    level : (t : Bool) → ltb b c ≡ t → b ≡ g → b ≡ c
    level true e h = let l = ltb-true b c e in absurd (omega (arith, after (omega arith)))
    level false e h = let l = ltb-false b c e in omega (arith, before l)

-- the goal from b over a neighbour c lies that way
module _ {b c : Cell} (n : Neighbours b c) (l : List Cell) where
  abbrev g : Cell
  g = goal b c l

  way_x : Way b.x c.x g.x
  way_x = way b.x c.x g.x (goal_after (λ d. d.x) even b c l) (goal_before (λ d. d.x) even b c l)
    where
      even : (a b c : Cell) → straight a b c ≡ true → a.x + c.x ≡ 2 * b.x
      even a b c e = (middle a b c e).0

  way_y : Way b.y c.y g.y
  way_y = way b.y c.y g.y (goal_after (λ d. d.y) even b c l) (goal_before (λ d. d.y) even b c l)
    where
      even : (a b c : Cell) → straight a b c ≡ true → a.y + c.y ≡ 2 * b.y
      even a b c e = (middle a b c e).1

  pub goal_apart : b ≢ g
  goal_apart e =
      let x = way_x.stays (ap (λ (d : Cell). d.x) e) in
      let y = way_y.stays (ap (λ (d : Cell). d.y) e) in
      absurd (omega (arith, beside_is n))

  pub towards_goal : towards b g ≡ c
  unfolding towards
  towards_goal = sym (go (ltb b.x g.x) refl (ltb g.x b.x) refl (ltb b.y g.y) refl (ltb g.y b.y) refl)
    where
      go : (r : Bool) → ltb b.x g.x ≡ r → (f : Bool) → ltb g.x b.x ≡ f
          → (d : Bool) → ltb b.y g.y ≡ d → (u : Bool) → ltb g.y b.y ≡ u → c ≡ towards b g
      go true e f q d h u k =
          let x = way_x.rises (ltb-true _ _ e) in
          cond_yes _ _ e (cell_eq (omega (arith, beside_is n)) (omega (arith, beside_is n)))
      go false e true q d h u k =
          let x = way_x.falls (ltb-true _ _ q) in
          cond_no _ _ e (cond_yes _ _ q (cell_eq (omega (arith, beside_is n)) (omega (arith, beside_is n))))
      go false e false q true h u k =
          let x = way_x.stays (omega (arith, ltb-false b.x g.x e, ltb-false g.x b.x q)) in
          let y = way_y.rises (ltb-true _ _ h) in
          cond_no _ _ e (cond_no _ _ q (cond_yes _ _ h (cell_eq (sym x) (omega (arith, beside_is n)))))
      go false e false q false h true k =
          let x = way_x.stays (omega (arith, ltb-false b.x g.x e, ltb-false g.x b.x q)) in
          let y = way_y.falls (ltb-true _ _ k) in
          cond_no _ _ e (cond_no _ _ q (cond_no _ _ h (cell_eq (sym x) (omega (arith, beside_is n)))))
      go false e false q false h false k =
          let x : b.x ≡ g.x = omega (arith, ltb-false b.x g.x e, ltb-false g.x b.x q) in
          let y : b.y ≡ g.y = omega (arith, ltb-false b.y g.y h, ltb-false g.y b.y k) in
          absurd (goal_apart (cell_eq x y))

-- ---- a step towards any cell

abbrev Beside : Panel → Cell → Cell → Type 0
Beside p b c = OnPanel p c → Neighbours b c

-- the step stays on a panel only to a neighbour
pub towards_beside : {p : Panel} (b g : Cell) → OnPanel p (towards b g) → Neighbours b (towards b g)
unfolding towards
towards_beside {p} b g = go (ltb b.x g.x) refl (ltb g.x b.x) refl (ltb b.y g.y) refl
  where
    go : (r : Bool) → ltb b.x g.x ≡ r → (f : Bool) → ltb g.x b.x ≡ f → (d : Bool) → ltb b.y g.y ≡ d → Beside p b (towards b g)
    go true e f q d h = subst (Beside p b) (cond_yes _ _ e refl) (λ o. beside (omega arith))
    go false e true q d h =
        subst (Beside p b) (cond_no _ _ e (cond_yes _ _ q refl)) (λ o. beside (omega (arith, ltb-true g.x b.x q)))
    go false e false q true h = subst (Beside p b) (cond_no _ _ e (cond_no _ _ q (cond_yes _ _ h refl))) (λ o. beside (omega arith))
    go false e false q false h =
        subst (Beside p b) (cond_no _ _ e (cond_no _ _ q (cond_no _ _ h refl))) (λ o. beside (omega (arith, o.top)))
