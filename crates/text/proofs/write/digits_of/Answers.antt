-- There is room for each digit, the last one taken is stored in front of the others, and those stored are the part.
use Rattle.std.proofs.Common.{◌-◌, ◌∙◌, refl, length, drop, arith, length-drop}
use Rattle.std.proofs.Math.ListN.{set, length-set}
use Rattle.std.proofs.Math.Seq.{take_all}
use Rattle.text.proofs.Decimals.{one_digit}
use Rattle.text.proofs.Puts.{digits_left, digit_stored, first_stored, more}
use Rattle.text.proofs.write.digits_of.Goals as goal

pub overflow_sub-at : goal.overflow_sub-at
overflow_sub-at c = more c.loop-rest.invariant.1 _ c.loop-rest.invariant.0 c.requires

pub bounds-scratch-at : goal.bounds-scratch-at
bounds-scratch-at c =
    let m = more c.loop-rest.invariant.1 _ c.loop-rest.invariant.0 c.requires in
    omega (arith, m, c.loop-rest.invariant.1.within)

pub loop-rest-preserved : goal.loop-rest-preserved
loop-rest-preserved c =
    let l = c.loop-rest in
    (simp length-set l.invariant.0, digit_stored l.invariant.1 _ (more l.invariant.1 _ l.invariant.0 c.requires) c.loop-rest-test.true c.digit_of.ensures)

pub overflow_sub-at-2 : goal.overflow_sub-at-2
overflow_sub-at-2 c = more c.loop-rest.invariant.1 _ c.loop-rest.invariant.0 c.requires

pub bounds-scratch-at-2 : goal.bounds-scratch-at-2
bounds-scratch-at-2 c =
    let m = more c.loop-rest.invariant.1 _ c.loop-rest.invariant.0 c.requires in
    omega (arith, m, c.loop-rest.invariant.1.within)

pub returns : goal.returns
returns c =
    let l = c.loop-rest in
    let d = l.invariant.1 in
    let m = more d _ l.invariant.0 c.requires in
    let last = set l.scratch (l.at - 1) c.digit_of-2.result in
    let part = drop (l.at - 1) last in
    record {
      bytes =
          take_all (length last - (l.at - 1)) part (omega (arith, length-drop (l.at - 1) last))
          ∙ first_stored d _ m c.loop-rest-test.false c.digit_of-2.ensures;
      block = refl;
      place = omega (arith, digits_left d, one_digit l.rest c.loop-rest-test.false, m, l.invariant.0);
    }
