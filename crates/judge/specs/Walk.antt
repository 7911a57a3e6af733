-- Document 02, R-3: Judge walks the list once. The answer is decided by the kept numbers, for whatever list they stand for; and what one
-- walk over a list keeps.
use Rattle.std.specs.Prelude.{ℕ, ◌≡◌, true, List, [], ◌++◌, drop}
use Rattle.grid.specs.declared.Panel.{Panel}
use Rattle.grid.specs.declared.Cell.{Cell}
use Rattle.grid.specs.Check.{Check}
use Rattle.grid.specs.Panel.{area}
use Rattle.judge_walk.specs.declared.Kept.{Kept}
use Rattle.judge_walk.specs.Walk.{Stands}
use Rattle.judge.specs.Judge.{cells_check}

-- r is the check of the cells, on every panel, for every list that the kept numbers stand for
pub record Decides (t : Cell) (k : Kept) (r : Check) : Type 0 where
  pub told : (p : Panel) (s : Cell) (l : List Cell) (marks : List ℕ) → Stands p s l k marks → r ≡ cells_check p s t l

-- a walk over the list l: what it keeps stands for the cells that it took, which are all of them unless one is off the panel. Bytes of
-- scratch behind the panel's places stay.
pub record Walked (p : Panel) (s : Cell) (l : List Cell) (old : List ℕ) (k : Kept) (new : List ℕ) : Type 0 where
  pub taken : List Cell
  pub ahead : List Cell
  pub parts : l ≡ taken ++ ahead
  pub stands : Stands p s taken k new
  pub whole : k.on ≡ true → ahead ≡ []
  pub rest : drop (area p) new ≡ drop (area p) old
