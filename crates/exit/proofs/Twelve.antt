-- On a panel with two rows and two columns or more the colours alone decide 12: as many cells as they allow, a track to some cell has. It has them
-- to a neighbour in the same column, in two rows to one in the same row, and from a white cell of an odd panel to another white cell. A tall panel is
-- turned.
use Rattle.std.specs.Prelude.{Ok, Err, None}
use Prim.Native.Nat.{ℕ, ◌+◌, ◌-◌, ◌*◌, ◌/◌, ◌%◌, ◌≤◌, ◌<◌}
use mathlib.Core.Path.{◌≡◌, refl, sym, ap, ◌∙◌}
use mathlib.Core.Logic.{◌≢◌, ◌↔◌}
use mathlib.Core.Bool.{false, cond}
use native.Mathlib.Omega.{arith}
use native.Mathlib.Nat.{mul_comm, le_trans}
use native.Mathlib.Decide.{dec_le, dec_lt, ℕ_discrete}
use borrow.Author.Tests.{le-ltb, eqb-false}
use Rattle.grid.specs.declared.Panel.{Panel}
use Rattle.grid.specs.declared.Cell.{Cell}
use Rattle.grid.specs.declared.Cells.{Cells}
use Rattle.grid.specs.declared.Refusal.TheVariants.{NoExit}
use Rattle.grid.specs.Check.{check_entry}
use Rattle.grid.specs.Panel.{OnPanel, area, black, cell, turned, turned_cell}
use Rattle.grid.proofs.Facts.{ne_x, ne_y}
use Rattle.grid.proofs.Passed.{good_entry}
use Rattle.grid.proofs.Moves.{turn_on, black_turned}
use Rattle.grid.proofs.Tests.{cond_no, both_branches}
use Rattle.count.specs.declared.ClassCount.{ClassCount}
use Rattle.count.specs.Count.{f2, f3, named, count}
use Rattle.count.proofs.Laws.{sum_le_product, either_order, not_f1, not_f2, not_f3, wide_class, turned_count}
use Rattle.count.proofs.F3.{no_f3}
use Rattle.plan.proofs.Decided.{decided_count, decided_odd, decided_even}
use Rattle.plan.proofs.Rows.{f2_row}
use Rattle.exit.specs.Exit.{exit_of}
use Rattle.exit.specs.First.{Exit}
use Rattle.exit.specs.Most.{most}
use Rattle.exit.proofs.Fitting.{fit_exit, is_fit}
use Rattle.exit.proofs.Most.{none_above}
use Rattle.exit.proofs.Answers.{searched}
use Rattle.exit.proofs.Theorem.{refuses_none}

-- 1 for a black cell, as the laws of counts have it
abbrev dark : Cell → ℕ
dark c = (c.x + c.y) % 2

most_small : (p : Panel) (s : Cell) → (most p s ≤ area p) × (dark s ≡ 1 → most p s ≤ 2 * (area p / 2))
most_small p s =
    both_branches (λ k. (k ≤ area p) × (dark s ≡ 1 → k ≤ 2 * (area p / 2))) (black s) _ _
    (λ b. (omega arith, λ d. omega arith)) (λ w. (omega arith, λ d. absurd (eqb-false (dark s) 1 w d)))

-- a cell to which a track has as many cells as the colours allow
record Allowed (p : Panel) (s : Cell) : Type 0 where
  d : Cell
  on : OnPanel p d
  other : s ≢ d
  enough : most p s ≤ count p s d

-- ---- a panel that is not tall

module _ (p : Panel) (wide : p.height ≤ p.width) (two : 2 ≤ p.height) where
  counted : (u v : Cell) → u.x ≤ v.x → count p u v ≡ decided_count p u v
  unfolding named
  counted u v l = ap (λ (r : ClassCount). r.count.0) (wide_class p u v wide ∙ sym (cond_no _ _ (le-ltb _ _ l) refl))

  -- where no special case fits, it is enough that the cells differ in colour, or on an odd panel that s alone may be black
  enough : (s u v : Cell) → u.x ≤ v.x → f2 p u v ≡ false → f3 p u v ≡ false
      → (area p % 2 ≡ 0 → (u.x + u.y + (v.x + v.y)) % 2 ≡ 1) → (area p % 2 ≡ 1 → dark u + dark v ≤ dark s) → most p s ≤ count p u v
  enough s u v l n2 n3 even odd =
      let n1 = not_f1 p u v (omega arith) in
      let some = sum_le_product p.width p.height (omega arith) (omega arith) in
      let (all, black) = most_small p s in
      let c = counted u v l in
      elim (ℕ_discrete (area p % 2) 1) [
        | yes o ↦ elim (ℕ_discrete (dark s) 1) [
          | yes b ↦ omega (arith, decided_odd p u v n1 n2 o n3 (omega arith), odd o, black b)
          | no w ↦ omega (arith, decided_odd p u v n1 n2 o n3 (omega arith), odd o)
        ]
        | no e ↦ omega (arith, decided_even p u v n1 n2 (omega arith) n3 (omega arith), even (omega arith))
      ]

  module _ (s : Cell) (os : OnPanel p s) where
    swapped : (d : Cell) → most p s ≤ count p d s → most p s ≤ count p s d
    swapped d e = omega (arith, ap (λ (r : ClassCount). r.count.0) (either_order p s d))

    -- the cell below or above
    column : 3 ≤ p.height → (area p % 2 ≡ 1 → dark s ≡ 1) → Allowed p s
    column three b = elim (dec_lt s.y p.height) [
      | yes below ↦ to (s.y + 1) (omega arith) (omega arith) (omega arith)
      | no last ↦ let low = os.bottom in to (s.y - 1) (omega arith) (omega arith) (omega arith)
    ]
      where
        to : (y : ℕ) → 1 ≤ y → y ≤ p.height → (s.y + y) % 2 ≡ 1 → Allowed p s
        to y l u q = let d = cell s.x y in record {
          d = d;
          on = record { left = os.left; right = os.right; top = l; bottom = u };
          other = ne_y (omega arith);
          enough =
              enough s s d (omega arith) (not_f2 p s d (omega arith)) (no_f3 p s d (λ a. omega arith)) (λ e. omega arith) (λ o. omega (arith, b o));
        }

    -- the cell to the right or to the left
    row : p.height ≡ 2 → Allowed p s
    row h = elim (dec_lt s.x p.width) [
      | yes more ↦ to (s.x + 1) (omega arith) (omega arith) (ne_x (omega arith)) (joined s (cell (s.x + 1) s.y) refl refl)
      | no last ↦
          let right = os.right in
          let d = cell (s.x - 1) s.y in
          to (s.x - 1) (omega arith) (omega arith) (ne_x (omega arith)) (swapped d (joined d s (omega arith) refl))
    ]
      where
        joined : (u v : Cell) → u.x + 1 ≡ v.x → u.y ≡ v.y → most p s ≤ count p u v
        joined u v q y =
            let even : area p ≡ p.width * 2 = ap (λ (k : ℕ). p.width * k) h in
            enough s u v (omega arith) (f2_row p u v (omega arith) y) (not_f3 p u v (omega arith)) (λ e. omega arith) (λ o. absurd (omega arith))

        to : (x : ℕ) → 1 ≤ x → x ≤ p.width → s ≢ cell x s.y → most p s ≤ count p s (cell x s.y) → Allowed p s
        to x l u n e = record { d = cell x s.y; on = record { left = l; right = u; top = os.top; bottom = os.bottom }; other = n; enough = e }

    -- the first or the third cell of the top row
    white : 3 ≤ p.height → area p % 2 ≡ 1 → dark s ≡ 0 → Allowed p s
    white three o b = elim (ℕ_discrete s.x 1) [
      | yes q ↦ to 3 (omega arith) (omega arith) (ne_x (omega arith)) (both s (cell 3 1) (omega arith) (omega arith) (omega arith))
      | no q ↦ to 1 (omega arith) (omega arith) (ne_x q) (swapped (cell 1 1) (both (cell 1 1) s os.left (omega arith) (omega arith)))
    ]
      where
        both : (u v : Cell) → u.x ≤ v.x → dark u ≡ 0 → dark v ≡ 0 → most p s ≤ count p u v
        both u v l du dv = enough s u v l (not_f2 p u v (omega arith)) (no_f3 p u v (λ a. omega arith)) (λ e. absurd (omega arith)) (λ o. omega arith)

        to : (x : ℕ) → 1 ≤ x → x ≤ 3 → s ≢ cell x 1 → most p s ≤ count p s (cell x 1) → Allowed p s
        to x l u n e = record {
          d = cell x 1;
          on = record { left = l; right = omega arith; top = omega arith; bottom = omega arith };
          other = n;
          enough = e;
        }

    wide_allowed : Allowed p s
    wide_allowed = elim (dec_le 3 p.height) [
      | yes three ↦ elim (ℕ_discrete (dark s) 1) [
        | yes b ↦ column three (λ o. b)
        | no w ↦ elim (ℕ_discrete (area p % 2) 1) [ yes o ↦ white three o (omega arith) | no e ↦ column three (λ o. absurd (e o)) ]
      ]
      | no few ↦ row (omega arith)
    ]

-- ---- any panel

most_turned : (p : Panel) (s : Cell) → most (turned p) (turned_cell s) ≡ most p s
most_turned p s = λ i. cond (black_turned s i) (2 * (mul_comm p.height p.width i / 2)) (mul_comm p.height p.width i)

allowed : (p : Panel) (s : Cell) → 2 ≤ p.width → 2 ≤ p.height → OnPanel p s → Allowed p s
allowed p s w h os = elim (dec_le p.height p.width) [
  | yes wide ↦ wide_allowed p wide h s os
  | no tall ↦
      let a = wide_allowed (turned p) (omega arith) w (turned_cell s) (turn_on os) in
      let n : s ≢ turned_cell a.d = λ q. a.other (ap turned_cell q) in
      record {
        d = turned_cell a.d;
        on = turn_on a.on;
        other = n;
        enough = omega (arith, a.enough, most_turned p s, turned_count p s (turned_cell a.d) os (turn_on a.on) n);
      }
]

-- 12 exactly if more is wanted than the colours allow
pub colours_decide : (p : Panel) (s : Cell) (w : Cells) → check_entry p s ≡ (Ok tt) → 2 ≤ p.width → 2 ≤ p.height
    → (exit_of p s w ≡ Err NoExit) ↔ (most p s < w.0)
colours_decide p s w g m n = (
  (λ q. elim (dec_lt (most p s) w.0) [ yes h ↦ h | no h ↦ absurd ((refuses_none p s w g).0 q a.d (exit (omega arith))) ]),
  (λ h. sym (searched p s w None g (none_above p s w os h))),
)
  where
    os : OnPanel p s
    os = (good_entry p s g).1

    a : Allowed p s
    a = allowed p s m n os

    exit : w.0 ≤ most p s → Exit p s w a.d
    exit h = fit_exit p s w a.d os a.on (is_fit p s w a.d a.other (le_trans h a.enough))
