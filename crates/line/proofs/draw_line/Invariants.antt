-- Cell i is the number first + step * i, modulo 65536.
use Rattle.std.proofs.Common.{◌≡◌, ◌+◌, ◌*◌, ◌%◌}
use Rattle.line.specs.Line.{numbered}
use Rattle.line.proofs.Written.{Written}
use Rattle.line.proofs.draw_line.Given as goal

abbrev pub invariant-loop-i : goal.invariant-loop-i
invariant-loop-i l = Written (numbered l.first l.step) l.n l.initial.buf l.buf l.i × (l.cell ≡ (l.first + l.step * l.i) % 65536)
