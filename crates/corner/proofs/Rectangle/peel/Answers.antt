-- The choice along the longer side, by the sizes that the code measures.
use mathlib.Core.Path.{◌∙◌}
use Rattle.corner.proofs.First.{peel_fits, open_measured, open_turned, peeled_wide, peeled_tall, wide_go, tall_go, lines_asked}
use Rattle.corner.proofs.Rectangle.peel.Goals as goal

pub choose-wide-requires : goal.choose-wide-requires
choose-wide-requires c = open_measured c.measure-s.ensures c.args.self.fits.inside c.requires

pub first_lines-requires : goal.first_lines-requires
first_lines-requires c =
    let f = c.args.self.fits in
    lines_asked _ _ _ f.inside _ (wide_go c.measure-s.ensures f.inside c.requires c.choose-wide.ensures)

pub returns-then-s-clause-lines : goal.returns-then-s-clause-lines
returns-then-s-clause-lines c =
    c.first_lines.ensures ∙ peeled_wide c.measure-s.ensures c.if-s.true c.choose-wide.ensures

pub returns-then-s-clause-rest : goal.returns-then-s-clause-rest
returns-then-s-clause-rest c = peel_fits c.args.self.fits c.requires (returns-then-s-clause-lines c)

pub choose-tall-requires : goal.choose-tall-requires
choose-tall-requires c =
    rw c.turned.ensures (open_turned (open_measured c.measure-s.ensures c.args.self.fits.inside c.requires))

pub first_lines-requires-2 : goal.first_lines-requires-2
first_lines-requires-2 c =
    let f = c.args.self.fits in
    let e = rw c.turned.ensures at c.choose-tall.ensures in
    rw c.other.ensures (lines_asked _ _ _ f.inside _ (tall_go c.measure-s.ensures f.inside c.requires e))

pub returns-clause-lines : goal.returns-clause-lines
returns-clause-lines c =
    let e = rw c.turned.ensures at c.choose-tall.ensures in
    rw (c.first_lines-2.ensures, c.other.ensures) (peeled_tall c.measure-s.ensures c.if-s.false e)

pub returns-clause-rest : goal.returns-clause-rest
returns-clause-rest c = peel_fits c.args.self.fits c.requires (returns-clause-lines c)
