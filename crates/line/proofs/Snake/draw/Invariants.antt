-- Two lines a turn: the invariant is `Snaked`.
use Rattle.std.proofs.Common.{◌+◌}
use Rattle.line.proofs.Snaked.{Snaked}
use Rattle.line.proofs.Snake.draw.Given as goal

abbrev pub invariant-loop : goal.invariant-loop
invariant-loop l =
    let s = l.self in
    Snaked s.first s.there s.back s.across s.cells s.lines l.initial.buf l.buf l.from s.there s.back l.at (l.counter + l.counter)
