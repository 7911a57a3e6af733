-- The tests in the definition's order; sides of at most 256 keep every sum small.
use mathlib.Core.Path.{sym, ◌∙◌}
use native.Mathlib.Omega.{arith}
use Rattle.corner.proofs.Count.{count_here, count_flat, count_full}
use Rattle.corner.proofs.First.{bounds, measured_count, thin}
use Rattle.corner.proofs.Rectangle.count.Goals as goal

pub overflow_add-s : goal.overflow_add-s
overflow_add-s c = let b = bounds c.measure-s.ensures c.args.self.fits in omega arith

pub returns-then-s-eq0 : goal.returns-then-s-eq0
returns-then-s-eq0 c = sym (count_here _ _ _ _ c.if-s-eq0.true) ∙ measured_count c.measure-s.ensures

pub overflow_add-result : goal.overflow_add-result
overflow_add-result c = let b = bounds c.measure-s.ensures c.args.self.fits in omega arith

pub returns-then-s-eq1 : goal.returns-then-s-eq1
returns-then-s-eq1 c = sym (count_flat _ _ _ _ c.if-s-eq1.true) ∙ measured_count c.measure-s.ensures

pub overflow_add-result-then-s-eq1-2 : goal.overflow_add-result-then-s-eq1-2
overflow_add-result-then-s-eq1-2 c = let b = bounds c.measure-s.ensures c.args.self.fits in omega arith

pub returns-then-s-eq1-2 : goal.returns-then-s-eq1-2
returns-then-s-eq1-2 c =
    thin c.measure-s.ensures c.args.self.fits.inside c.if-s-eq1-2.true ∙ measured_count c.measure-s.ensures

pub overflow_mul-all : goal.overflow_mul-all
overflow_mul-all c = let b = bounds c.measure-s.ensures c.args.self.fits in omega arith

pub overflow_add-result-2 : goal.overflow_add-result-2
overflow_add-result-2 c = let b = bounds c.measure-s.ensures c.args.self.fits in omega arith

pub overflow_add-result-3 : goal.overflow_add-result-3
overflow_add-result-3 c = let b = bounds c.measure-s.ensures c.args.self.fits in omega arith

pub overflow_add-result-4 : goal.overflow_add-result-4
overflow_add-result-4 c = let b = bounds c.measure-s.ensures c.args.self.fits in omega arith

pub returns : goal.returns
returns c =
    sym (count_full _ _ _ _ c.if-s-eq0.false c.if-s-eq1-2.false c.if-s-eq1.false) ∙ measured_count c.measure-s.ensures
