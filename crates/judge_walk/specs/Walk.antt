-- Document 02, R-3: what Judge keeps of the cells that it has passed. The kept numbers and the scratch stand for a list of cells; whatever
-- list that is, they and the next cell say what stands for the list with that cell behind it, with no look back into the list.
use Rattle.std.specs.Prelude.{ℕ, ◌*◌, ◌≤◌, ◌≡◌, Bool, true, false, not, List, [], ◌∷◌, ◌++◌, Option, None, Some, length, drop}
use Rattle.grid.specs.declared.Panel.{Panel}
use Rattle.grid.specs.declared.Cell.{Cell}
use Rattle.grid.specs.Panel.{area, OnPanel, same_cell}
use Rattle.list.specs.List.{all_on, all_steps, among, none_twice, last_from}
use Rattle.scratch.specs.Scratch.{unmarked, Clean}
use Rattle.judge_walk.specs.declared.Kept.{Kept}

-- the first cell is s
abbrev pub starts : Cell → List Cell → Bool
starts s [] = false
starts s (c ∷ l) = same_cell c s

-- the last cell, if there is one
abbrev pub ends : List Cell → Option Cell
ends [] = None
ends (c ∷ l) = Some (last_from c l)

-- what is kept of a list whose cells are all on the panel: the tests of its steps, of repeats and of the first cell; the last cell; and of
-- each cell of the panel whether it stands in the list, which is so where its place in scratch is not 0
pub record KeptOn (p : Panel) (s : Cell) (l : List Cell) (k : Kept) (marks : List ℕ) : Type 0 where
  pub steps : k.steps ≡ all_steps l
  pub once : k.once ≡ none_twice l
  pub begins : k.begins ≡ starts s l
  pub last : k.last ≡ ends l
  pub marked : (c : Cell) → OnPanel p c → unmarked p marks c ≡ not (among c l)

-- the kept numbers and the scratch stand for a list (an abstraction relation): how many bytes it has, whether a cell is off the panel, and
-- where none is what `KeptOn` says
pub record Stands (p : Panel) (s : Cell) (l : List Cell) (k : Kept) (marks : List ℕ) : Type 0 where
  pub room : area p ≤ length marks
  pub bytes : k.bytes ≡ 2 * length l
  pub on : k.on ≡ all_on p l
  pub kept : all_on p l ≡ true → KeptOn p s l k marks

-- they stand for some list
pub record StandsForSome (p : Panel) (s : Cell) (k : Kept) (marks : List ℕ) : Type 0 where
  pub list : List Cell
  pub stands : Stands p s list k marks

-- before the first cell, in clean scratch: they stand for the empty list
pub record Begins (k : Kept) : Type 0 where
  pub empty : (p : Panel) (s : Cell) (marks : List ℕ) → Clean p marks → Stands p s [] k marks

-- the next cell c: where k and old stand for a list, r and new stand for the list with c behind it. Bytes of scratch behind the panel's
-- places stay.
pub record Takes (p : Panel) (s : Cell) (k : Kept) (c : Cell) (old : List ℕ) (r : Kept) (new : List ℕ) : Type 0 where
  pub next : (l : List Cell) → Stands p s l k old → Stands p s (l ++ c ∷ []) r new
  pub rest : drop (area p) new ≡ drop (area p) old
