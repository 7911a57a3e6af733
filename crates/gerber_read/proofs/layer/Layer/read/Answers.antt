-- What was found, and the buffer: each refusal in its place, then the list.
use Rattle.std.proofs.Common.{◌∙◌, ◌*◌, ◌≡◌, refl, sym, true, leb, length, arith}
use Rattle.std.proofs.lemmas.Result.{err_from_is_err_and}
use borrow.Author.Tests.{leb-true, leb-false}
use Rattle.grid.specs.declared.Refusal.TheVariants.{ShortBuffer}
use Rattle.grid.proofs.Passed.{expect_passed}
use Rattle.gerber_read.proofs.Layers.{test_refused, not_started, started, start_few, file_refused, short_refused, given_list}
use Rattle.gerber_read.proofs.layer.Layer.read.Goals as goal

pub returns-in_err-start : goal.returns-in_err-start
returns-in_err-start c =
    let a = c.args in
    let (none, is) = not_started a.self.panel a.self.file.now c.start.result c.start.ensures c.ok_or.ensures.value c.in_err-start.was in
    let q = err_from_is_err_and c.from_residual.result c.from_residual.ensures.1 in
    rw (q.1, q.2, is) (file_refused a.self.panel a.self.file.now a.list.now a.self.good none refl)

pub overflow_mul-start : goal.overflow_mul-start
overflow_mul-start c =
    let w = started c.args.self.panel c.args.self.file.now c.start.result c.start.ensures c.ok_or.ensures.value c.in_ok-start.was in
    omega (arith, start_few c.args.self.good w)

pub returns-in_err-ensure : goal.returns-in_err-ensure
returns-in_err-ensure c =
    let a = c.args in
    let w = started a.self.panel a.self.file.now c.start.result c.start.ensures c.ok_or.ensures.value c.in_ok-start.was in
    let (short, is) = test_refused _ ShortBuffer c.ensure.ensures c.in_err-ensure.was in
    let q = err_from_is_err_and c.from_residual-in_err-ensure.result c.from_residual-in_err-ensure.ensures.1 in
    rw (q.1, q.2, is) (short_refused a.self.panel a.self.file.now a.list.now a.self.good _ w.found (omega (arith, leb-false _ _ short, w.size)) refl)

pub overflow_cast-result : goal.overflow_cast-result
overflow_cast-result c =
    let w = started c.args.self.panel c.args.self.file.now c.start.result c.start.ensures c.ok_or.ensures.value c.in_ok-start.was in
    omega (arith, start_few c.args.self.good w)

pub returns : goal.returns
returns c =
    let a = c.args in
    let w = started a.self.panel a.self.file.now c.start.result c.start.ensures c.ok_or.ensures.value c.in_ok-start.was in
    let n = 2 * c.in_ok-start.start.count in
    let fits : leb n (length a.list.now) ≡ true = expect_passed _ ShortBuffer _ (sym c.ensure.ensures ∙ c.in_ok-ensure.was) in
    given_list a.self.panel a.self.file.now a.list.now a.self.good _ w.found w.size (omega (arith, w.size, leb-true n _ fits)) c.write_cells.ensures
