-- What was found says whether the record is refused; if not, its cells go to the buffer.
use Rattle.std.specs.Prelude.{Ok, Err}
use Rattle.std.proofs.Common.{◌≡◌, ◌+◌, ◌*◌, ◌∙◌, List, ℕ, sym, ap, length, rules}
use mathlib.Core.Path.{ap₂}
use lib.Dec.{leb}
use Rattle.grid.specs.declared.Cell.{Cell}
use Rattle.grid.specs.declared.Cells.{Cells}
use Rattle.grid.specs.declared.Refusal.TheVariants.{ShortBuffer}
use Rattle.grid.specs.Check.{Check, expect}
use Rattle.grid.proofs.Answers.{cells_good}
use Rattle.grid.proofs.Tests.{after_good, after_refused, answer_good}
use Rattle.list.specs.List.{all_on, with_cells}
use Rattle.step_letters.specs.Letters.{largest_panel, walk_from}
use Rattle.record_head.specs.declared.Head.{Head}
use Rattle.record_head.specs.Head.{head_length, head_in, letters_in, panel_in}
use Rattle.record.specs.Read.{cells_read, record_cells, check_read, recorded}
use Rattle.record.proofs.Answers.{is_err, record_good, record_refused, reads, refuses}
use Rattle.record.proofs.Walks.{all_on_largest}
use Rattle.record.proofs.read.Goals as goal

pub returns-in_err-cells : goal.returns-in_err-cells
returns-in_err-cells c =
    let found : record_cells c.args.file.now ≡ Err c.in_err-cells.field-0.0 = search rules in
    refuses _ _ (sym (after_refused _ (record_refused _ found))) (is_err _ c.from_residual.ensures.1)

-- of a record of k cells the test of the buffer is the one that is left
module _ (f list : List ℕ) {k : Cells} (e : record_cells f ≡ Ok k) where
  asked : {z : Check} → z ≡ expect (leb (2 * k.0) (length list)) ShortBuffer (Ok tt) → check_read f list ≡ z
  asked g =
      let (good, all) = cells_good _ _ k e in
      sym (after_good _ good (g ∙ ap (λ (n : ℕ). expect (leb (2 * n) (length list)) ShortBuffer (Ok tt)) (sym all)))

pub returns-in_err-ensure : goal.returns-in_err-ensure
returns-in_err-ensure c =
    let found : record_cells c.args.file.now ≡ Ok c.in_ok-cells.cells = search rules in
    refuses _ _ (asked _ c.args.list.now found c.ensure.ensures ∙ c.in_err-ensure.was {u = tt}) (is_err _ c.from_residual-in_err-ensure.ensures.1)

-- the cells that are put are the record's
same : (f : List ℕ) {h : Head} {l : List ℕ} → h ≡ head_in f → l ≡ letters_in f → walk_from h.entry l ≡ cells_read f
same f e g = ap₂ (λ (h : Head) (l : List ℕ). walk_from h.entry l) e g

pub write_cells-requires-clause-on : goal.write_cells-requires-clause-on
write_cells-requires-clause-on c =
    let f = c.args.file.now in
    let found : record_cells f ≡ Ok c.in_ok-cells.cells = search rules in
    let g = record_good f (cells_good _ _ _ found).0 in
    ap (all_on largest_panel) (same f c.head_in-h.ensures c.letters_in.ensures.bytes) ∙ all_on_largest (panel_in f) (cells_read f) g.head.panel g.cells

pub returns : goal.returns
returns c =
    let f = c.args.file.now in
    let list = c.args.list.now in
    let h = c.head_in-h.ensures in
    let found : record_cells f ≡ Ok c.in_ok-cells.cells = search rules in
    let all = (cells_good _ _ _ found).1 in
    let e = asked f list found c.ensure.ensures ∙ c.in_ok-ensure.was {u = tt} in
    reads f list
    (answer_good _ _ e (λ i. Ok (recorded (h i).panel (sym all i) (head_length + (h i).steps.0))))
    (answer_good _ _ e (c.write_cells.ensures ∙ ap (λ (w : List Cell). with_cells w list) (same f h c.letters_in.ensures.bytes)))
