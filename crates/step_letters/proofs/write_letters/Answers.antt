-- In a turn there is a letter to write and room for it; at the end there is none left.
use Rattle.std.proofs.Common.{ℕ, List, [], ◌≡◌, ◌+◌, ◌-◌, ◌*◌, ◌/◌, ◌<◌, ◌≤◌, ◌++◌, ◌∷◌, ◌∙◌, refl, sym, ap, length, take, drop, arith}
use mathlib.Core.Path.{ap₂}
use lib.ListN.{set, length-set}
use Rattle.grid.specs.Bytes.{cells_in}
use Rattle.list.specs.List.{cell_at}
use Rattle.step_letters.specs.Letters.{letter, letters_of}
use Rattle.step_letters.proofs.Lists.{letters_more, letters_end, length_letters, put_byte, put_done}
use Rattle.step_letters.proofs.write_letters.Invariants.{rest, end}
use Rattle.step_letters.proofs.write_letters.Goals as goal

-- the letter of the step to the cell i, and those behind it
turn : (list : List ℕ) (i : ℕ) → 1 ≤ i → i < length list / 2
    → rest list i ≡ letter (cell_at list (2 * (i - 1))) (cell_at list (2 * i)) ∷ rest list (i + 1)
turn list i g h =
    let next : 2 * (i - 1) + 2 ≡ 2 * i = omega arith in
    let after : 2 * (i - 1) + 2 ≡ 2 * (i + 1 - 1) = omega arith in
    letters_more list (2 * (i - 1)) (omega arith)
    ∙ (λ t. letter (cell_at list (2 * (i - 1))) (cell_at list (next t)) ∷ letters_of (cells_in (drop (after t) list)))

-- a byte put at k, which is the place of the turn
put_at : (l : List ℕ) (at k next n x : ℕ) (r : List ℕ) → k ≡ at → at + 1 ≡ next → at < length l → at < n
    → take at l ++ (x ∷ (r ++ drop n l)) ≡ take next (set l k x) ++ (r ++ drop n (set l k x))
put_at l at k next n x r e f h m =
    put_byte l at n x r h m ∙ ap₂ (λ (j p : ℕ). take j (set l p x) ++ (r ++ drop n (set l p x))) f (sym e)

pub loop-i-init : goal.loop-i-init
loop-i-init c =
    let list = c.args.list.now in
    let out = c.args.out.now in
    let from = c.args.from in
    let first : from ≡ from + 1 - 1 = omega arith in
    record {
      size = refl;
      left = omega (arith, length_letters (cells_in list));
      made = ap (λ (k : ℕ). take k out ++ (rest list 1 ++ drop (end from list) out)) first;
    }

pub loop-i-preserved : goal.loop-i-preserved
loop-i-preserved c =
    let list = c.args.list.now in
    let from = c.args.from in
    let out = c.loop-i.out in
    let i = c.loop-i.i in
    let at = from + i - 1 in
    let n = end from list in
    let b = c.letter_of.result in
    let more = turn list i c.loop-i.auto.i c.loop-i-test.true in
    let left : at + 1 + length (rest list (i + 1)) ≡ n = omega (arith, c.loop-i.invariant.left, ap length more) in
    let next : at + 1 ≡ from + (i + 1) - 1 = omega (arith, c.loop-i.auto.i) in
    let r : rest list i ≡ b ∷ rest list (i + 1) =
    more ∙ ap (λ (x : ℕ). x ∷ rest list (i + 1)) (sym (c.letter_of.ensures ∙ ap₂ letter c.cell_at.ensures c.cell_at-in-loop-i.ensures)) in
    record {
      size = simp length-set c.loop-i.invariant.size;
      left = omega (arith, left, next);
      made = c.loop-i.invariant.made
          ∙ ap (λ (k : List ℕ). take at out ++ (k ++ drop n out)) r
          ∙ put_at out at _ _ n b (rest list (i + 1)) (omega arith) next (omega (arith, c.requires, c.loop-i.invariant.size, left)) (omega (arith, left));
    }

pub bounds-out-from : goal.bounds-out-from
bounds-out-from c = omega (arith, ap length (turn c.args.list.now c.loop-i.i c.loop-i.auto.i c.loop-i-test.true))

pub overflow_add-out : goal.overflow_add-out
overflow_add-out c = omega (arith, ap length (turn c.args.list.now c.loop-i.i c.loop-i.auto.i c.loop-i-test.true))

pub returns : goal.returns
returns c =
    let list = c.args.list.now in
    let from = c.args.from in
    let out = c.loop-i.out in
    let i = c.loop-i.i in
    let at = from + i - 1 in
    let n = end from list in
    let none : rest list i ≡ [] = letters_end list (2 * (i - 1)) (omega (arith, c.loop-i-test.false)) in
    sym (c.loop-i.invariant.made
    ∙ ap (λ (k : List ℕ). take at out ++ (k ++ drop n out)) none
    ∙ put_done out at n (omega (arith, c.loop-i.invariant.left, ap length none)))
