-- The invariant: what the letters of the steps from the cell before i on still make of the buffer is what all of them make of it at first.
use Prim.Native.Nat.{ℕ, ◌-◌, ◌+◌, ◌*◌}
use mathlib.Core.Path.{◌≡◌}
use mathlib.Core.List.{List, ◌++◌}
use lib.ListN.{length, take, drop}
use Rattle.grid.specs.Bytes.{cells_in}
use Rattle.step_letters.specs.Letters.{letters_of, steps_of, with_letters}
use Rattle.step_letters.proofs.write_letters.Given as goal

-- the letters of the steps from the cell before i on
abbrev pub rest : List ℕ → ℕ → List ℕ
rest list i = letters_of (cells_in (drop (2 * (i - 1)) list))

-- where the letters end
abbrev pub end : ℕ → List ℕ → ℕ
end from list = from + steps_of (cells_in list)

-- a buffer of n bytes whose byte at is the next to be written
pub record Writes (list : List ℕ) (from i : ℕ) (old new : List ℕ) : Type 0 where
  pub size : length new ≡ length old
  pub left : from + i - 1 + length (rest list i) ≡ end from list
  pub made : with_letters from (cells_in list) old
      ≡ take (from + i - 1) new ++ (rest list i ++ drop (end from list) new)

abbrev pub invariant-loop-i : goal.invariant-loop-i
invariant-loop-i l = Writes l.list l.from l.i l.initial.out l.out
