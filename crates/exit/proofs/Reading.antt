-- The first cell in reading order that passes a test. A row goes by its cells and the panel by its rows: one law serves both.
use Rattle.std.specs.Prelude.{Option, Some, None}
use Prim.Native.Nat.{ℕ, zero, suc, ◌+◌, ◌≤◌, ◌<◌}
use mathlib.Core.Path.{◌≡◌, refl, sym, ◌∙◌, subst}
use mathlib.Core.Logic.{inl, inr}
use mathlib.Core.Bool.{Bool, true, false, cond}
use mathlib.Core.List.{List, [], ◌∷◌, ◌++◌}
use native.Mathlib.Omega.{arith}
use native.Mathlib.Decide.{ℕ_discrete}
use Rattle.grid.specs.declared.Panel.{Panel}
use Rattle.grid.specs.declared.Cell.{Cell}
use Rattle.grid.specs.Panel.{OnPanel, cell}
use Rattle.grid.specs.Reading.{run, row, reading}
use Rattle.grid.proofs.Facts.{clash, cell_eq}
use Rattle.grid.proofs.Tests.{cond_no}
use Rattle.exit.specs.Exit.{is_found, first}
use Rattle.exit.specs.First.{Before}

-- k is x, or another
at_other : (Q : ℕ → Type 0) (x k : ℕ) → Q x → (¬ (x ≡ k) → Q k) → Q k
at_other Q x k a b = elim (ℕ_discrete x k) [ yes q ↦ subst Q q a | no q ↦ b q ]

-- what holds with the list of x in front, and stays with the lists before x in front, holds of a run over x
over : (Q : List Cell → Type 0) (g : ℕ → List Cell) (x : ℕ) → ((l : List Cell) → Q (g x ++ l))
    → ((k : ℕ) (l : List Cell) → 1 ≤ k → k < x → Q l → Q (g k ++ l))
    → (s n : ℕ) → 1 ≤ s → s ≤ x → x < s + n → Q (run g s n)
over Q g x o j s zero a l u = absurd (omega arith)
over Q g x o j s (suc n) a l u =
    at_other (λ (k : ℕ). Q (g k ++ run g (suc s) n)) x s (o _)
    (λ q. j s _ a (omega arith) (over Q g x o j (suc s) n (omega arith) (omega arith) (omega arith)))

module _ (f : Cell → Bool) where
  -- two lists joined: what is found in the first, else what is found in the second
  joined : (l k : List Cell) → cond (is_found (first f l)) (first f l) (first f k) ≡ first f (l ++ k)
  joined [] k = refl
  joined (c ∷ l) k =
      elim (f c) as (λ b. cond (is_found (cond b (Some c) (first f l))) (cond b (Some c) (first f l)) (first f k) ≡ cond b (Some c) (first f (l ++ k)))
      [ true ↦ refl | false ↦ joined l k ]

  behind : (l k : List Cell) {r : Option Cell} → r ≡ first f l → cond (is_found r) r (first f k) ≡ first f (l ++ k)
  behind l k e = (λ i. cond (is_found (e i)) (e i) (first f k)) ∙ joined l k

  -- nothing passes in two lists joined: in neither
  parted : (l k : List Cell) → None ≡ first f (l ++ k) → (None ≡ first f l) × (None ≡ first f k)
  parted l k e = go (first f l) refl
    where
      go : (r : Option Cell) → r ≡ first f l → (None ≡ first f l) × (None ≡ first f k)
      go (Some c) q = clash (let h = behind l k q in cc)
      go None q = (q, e ∙ sym (behind l k q))

  -- nothing passes in any list of a run: nothing in the run
  none_each : (g : ℕ → List Cell) (s n : ℕ) → ((k : ℕ) → s ≤ k → k < s + n → None ≡ first f (g k)) → None ≡ first f (run g s n)
  none_each g s zero h = refl
  none_each g s (suc n) h =
      none_each g (suc s) n (λ k l u. h k (omega arith) (omega arith)) ∙ behind (g s) (run g (suc s) n) (h s (omega arith) (omega arith))

  -- and the other way round
  none_at : (g : ℕ → List Cell) (x m : ℕ) → 1 ≤ x → x ≤ m → None ≡ first f (run g 1 m) → None ≡ first f (g x)
  none_at g x m l u =
      over (λ (k : List Cell). None ≡ first f k → None ≡ first f (g x)) g x
      (λ k e. (parted (g x) k e).0) (λ j k a h r e. r (parted (g j) k e).1)
      1 m (omega arith) l (omega arith)

-- no cell of the lists before x passes the test
pub record NoneBefore (f : Cell → Bool) (g : ℕ → List Cell) (x : ℕ) : Type 0 where
  pub low : 1 ≤ x
  pub none : (k : ℕ) → 1 ≤ k → k < x → None ≡ first f (g k)

module _ {f : Cell → Bool} {g : ℕ → List Cell} {x : ℕ} (b : NoneBefore f g x) where
  pub hit : (m : ℕ) {k : ℕ} {c : Cell} → Some c ≡ first f (g k) → 1 ≤ k → k ≤ m → k ≤ x → Some c ≡ first f (run g 1 m)
  hit m {k} {c} e l h u =
      over (λ (z : List Cell). Some c ≡ first f z) g k (λ z. behind f (g k) z e) (λ j z a v q. q ∙ behind f (g j) z (b.none j a (omega arith)))
      1 m (omega arith) l (omega arith)

  pub miss : {z : ℕ} → None ≡ first f (g x) → 1 ≤ z → z ≤ x + 1 → NoneBefore f g z
  miss e l h = record { low = l; none = λ k m u. at_other (λ (k : ℕ). None ≡ first f (g k)) x k e (λ q. b.none k m (omega arith)) }

  pub all_passed : (m : ℕ) → m < x → None ≡ first f (run g 1 m)
  all_passed m h = none_each f g 1 m (λ k l u. b.none k l (omega arith))

-- a cell is found in the list of x, before the end, and nothing in the lists before it
record FoundAt (f : Cell → Bool) (g : ℕ → List Cell) (end : ℕ) (c : Cell) : Type 0 where
  x : ℕ
  within : x < end
  here : Some c ≡ first f (g x)
  before : NoneBefore f g x

module _ {f : Cell → Bool} {c : Cell} (g : ℕ → List Cell) where
  found_from : (s n end : ℕ) → s + n ≡ end → NoneBefore f g s → Some c ≡ first f (run g s n) → FoundAt f g end c
  found_from s zero end h b e = clash (cc)
  found_from s (suc n) end h b e = go (first f (g s)) refl (found_from (suc s) n end (omega arith))
    where
      go : (r : Option Cell) → r ≡ first f (g s) → (NoneBefore f g (suc s) → Some c ≡ first f (run g (suc s) n) → FoundAt f g end c) → FoundAt f g end c
      go (Some d) q later = record { x = s; within = omega arith; here = e ∙ sym (behind f (g s) (run g (suc s) n) q) ∙ q; before = b }
      go None q later = later (miss b q (omega arith) (omega arith)) (e ∙ sym (behind f (g s) (run g (suc s) n) q))

  -- where a cell found in a run is found
  found_at : (m : ℕ) → Some c ≡ first f (run g 1 m) → FoundAt f g (1 + m) c
  found_at m e = found_from 1 m (1 + m) refl (record { low = omega arith; none = λ k l u. absurd (omega arith) }) e

-- ---- on a panel

-- the first cell of the panel that passes the test
pub record FirstOn (f : Cell → Bool) (p : Panel) (c : Cell) : Type 0 where
  pub on : OnPanel p c
  pub passes : f c ≡ true
  pub none : (d : Cell) → OnPanel p d → Before d c → f d ≡ false

module _ (f : Cell → Bool) where
  -- a list of one cell
  fails : (c : Cell) → None ≡ first f (c ∷ []) → f c ≡ false
  fails c = elim (f c) as (λ b. None ≡ cond b (Some c) None → b ≡ false) [ true ↦ λ q. clash (cc) | false ↦ λ q. refl ]

  passes : (c d : Cell) → Some d ≡ first f (c ∷ []) → (c ≡ d) × (f c ≡ true)
  passes c d = elim (f c) as (λ b. Some d ≡ cond b (Some c) None → (c ≡ d) × (b ≡ true)) [ true ↦ λ q. (cc, refl) | false ↦ λ q. clash (cc) ]

  module _ (p : Panel) where
    row_fails : (d : Cell) → OnPanel p d → None ≡ first f (row p d.y) → f d ≡ false
    row_fails d o e = fails d (none_at f (λ x. cell x d.y ∷ []) d.x p.width o.left o.right e)

    -- where nothing is found, the test fails at each cell of the panel
    pub none_on : None ≡ first f (reading p) → (d : Cell) → OnPanel p d → f d ≡ false
    none_on e d o = row_fails d o (none_at f (row p) d.y p.height o.top o.bottom e)

    -- and the other way round
    pub none_first : ((d : Cell) → OnPanel p d → f d ≡ false) → None ≡ first f (reading p)
    none_first h =
        none_each f (row p) 1 p.height (λ y t b.
        none_each f (λ x. cell x y ∷ []) 1 p.width (λ x l r.
        cond_no (Some (cell x y)) None (h (cell x y) (record { left = l; right = omega arith; top = t; bottom = omega arith })) refl))

    -- the cell found is the first on the panel
    pub first_on : (c : Cell) → Some c ≡ first f (reading p) → FirstOn f p c
    first_on c e =
        let r = found_at (row p) p.height e in
        let i = found_at (λ x. cell x r.x ∷ []) p.width r.here in
        let (same, fit) = passes (cell i.x r.x) c i.here in
        subst (FirstOn f p) same (record {
          on = record { left = i.before.low; right = omega arith; top = r.before.low; bottom = omega arith };
          passes = fit;
          none = λ d o b. elim b [
            | inl above ↦ row_fails d o (r.before.none d.y o.top above)
            | inr (q, left) ↦ subst (λ (e : Cell). f e ≡ false) (cell_eq refl (sym q)) (fails _ (i.before.none d.x o.left left))
          ];
        })
