-- The numbers of the refusals: 1 to 17 are document 01's, 18 is R-1's, 19 R-7's, which only the bench's calls give, 20 R-8's, which only Probe
-- gives, 21 R-11's, which only Compare gives, and 22 and 23 R-12's, which only the call that edits gives. R-6 withdrew 4, R-9 withdrew 10.
use Rattle.std.specs.Prelude.{ℕ}
use Rattle.grid.specs.declared.Refusal.{Refusal}
use Rattle.grid.specs.declared.Refusal.TheVariants as refusal

-- the number of a refusal
abbrev pub number : Refusal → ℕ
number refusal.Side = 1
number refusal.EntryOff = 2
number refusal.ExitOff = 3
number refusal.ShortBuffer = 5
number refusal.ListLength = 6
number refusal.CellOff = 7
number refusal.NotNeighbours = 8
number refusal.Repeated = 9
number refusal.WrongEnds = 11
number refusal.NoExit = 12
number refusal.OneWide = 13
number refusal.Mark = 14
number refusal.StepCount = 15
number refusal.UnknownByte = 16
number refusal.CutShort = 17
number refusal.Pitch = 18
number refusal.BenchSide = 19
number refusal.ProbeBytes = 20
number refusal.TickBack = 21
number refusal.NoSuchEdit = 22
number refusal.NothingRecorded = 23
