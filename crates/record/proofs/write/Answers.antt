-- A list that is not refused has its head and its letters written one after the other, which is the record.
use Rattle.std.specs.Prelude.{Ok}
use Rattle.std.proofs.Common.{ℕ, List, ◌≡◌, ◌+◌, ◌/◌, ◌≤◌, ◌∙◌, sym, ap, length, arith, rules}
use borrow.Author.Tests.{leb-true}
use lib.Dec.{leb}
use Rattle.grid.specs.declared.Panel.{Panel}
use Rattle.grid.specs.declared.Refusal.TheVariants.{ShortBuffer}
use Rattle.grid.specs.Bytes.{cells_in}
use Rattle.grid.specs.Check.{Check, expect}
use Rattle.grid.proofs.Passed.{expect_passed}
use Rattle.grid.proofs.Tests.{after_good}
use Rattle.list.specs.Check.{check_list}
use Rattle.list.proofs.Cells.{length_cells}
use Rattle.list.proofs.Checks.{GoodList, list_good}
use Rattle.record_head.specs.Head.{head_length}
use Rattle.record.specs.Write.{check_write}
use Rattle.record.proofs.Made.{made, refused, few, counted, split}
use Rattle.record.proofs.write.Goals as goal

-- of a list that is not refused, with k steps
module _ (p : Panel) (list : List ℕ) (e : check_list p list ≡ Ok tt) where
  good : GoodList p (cells_in list)
  good = list_good p list e

  module _ (k : ℕ) (n : k + 1 ≡ length list / 2) where
    small : k ≤ 16383
    small = omega (arith, few p (cells_in list) good, length_cells list)

    -- the test of the buffer is the one that is left
    asked : (out : List ℕ) {z : Check} → z ≡ expect (leb (head_length + k) (length out)) ShortBuffer (Ok tt) → check_write p list out ≡ z
    asked out f = sym (after_good _ e (f ∙ ap (λ (j : ℕ). expect (leb (head_length + j) (length out)) ShortBuffer (Ok tt)) (counted p list good n)))

room : (k : ℕ) (out : List ℕ) {z : Check} → z ≡ expect (leb (head_length + k) (length out)) ShortBuffer (Ok tt) → z ≡ Ok tt → head_length + k ≤ length out
room k out f o = leb-true _ _ (expect_passed (leb (head_length + k) (length out)) _ _ (sym f ∙ o))

pub overflow_cast-cells : goal.overflow_cast-cells
overflow_cast-cells c =
    let l = c.args.list.now in
    omega (arith, few c.args.p (cells_in l) (good c.args.p l (search rules)), length_cells l)

pub write_head-requires-clause-few : goal.write_head-requires-clause-few
write_head-requires-clause-few c =
    omega (arith, small c.args.p c.args.list.now (search rules) _ c.steps_of.ensures)

pub write_letters-requires : goal.write_letters-requires
write_letters-requires c =
    let g = good c.args.p c.args.list.now (search rules) in
    let h = room c.steps_of.result.0 c.args.out.now c.ensure.ensures (c.in_ok-ensure.was {u = tt}) in
    omega (arith, h, counted c.args.p c.args.list.now g c.steps_of.ensures, c.write_head.auto.out)

pub overflow_cast-result : goal.overflow_cast-result
overflow_cast-result c =
    omega (arith, small c.args.p c.args.list.now (search rules) _ c.steps_of.ensures)

pub returns-in_err-ensure : goal.returns-in_err-ensure
returns-in_err-ensure c =
    let p = c.args.p in
    let l = c.args.list.now in
    let checked : check_list p l ≡ Ok tt = search rules in
    refused p l c.args.out.now (asked p l checked _ c.steps_of.ensures c.args.out.now c.ensure.ensures ∙ c.in_err-ensure.was {u = tt})
    (search rules)

pub returns : goal.returns
returns c =
    let p = c.args.p in
    let l = c.args.list.now in
    let checked : check_list p l ≡ Ok tt = search rules in
    let g = good p l checked in
    made (asked p l checked _ c.steps_of.ensures c.args.out.now c.ensure.ensures ∙ c.in_ok-ensure.was {u = tt}) (split p l g)
    (counted p l g c.steps_of.ensures) c.cell_at.ensures c.write_head.ensures c.write_letters.ensures
