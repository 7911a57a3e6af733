-- What is kept stands for the cells taken so far.
use Rattle.judge.proofs.Walks.{Walking}
use Rattle.judge.proofs.walk.Given as goal

abbrev pub invariant-loop-pair : goal.invariant-loop-pair
invariant-loop-pair l = Walking l.o.panel l.o.entry l.pair-items l.initial.scratch l.k l.pair-index l.scratch
