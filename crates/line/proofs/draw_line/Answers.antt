-- Cell i is the number first + step * i, modulo 65536.
use Rattle.std.proofs.Common.{refl, arith}
use Rattle.line.proofs.Written.{more, next_number}
use Rattle.line.proofs.draw_line.Goals as goal

pub loop-i-preserved : goal.loop-i-preserved
loop-i-preserved c =
    let l = c.loop-i in (
      more _ _ _ l.buf l.i _ _ l.invariant.0 c.requires c.loop-i-test.true (omega arith) (omega arith),
      next_number _ _ _ l.invariant.1 refl,
    )
