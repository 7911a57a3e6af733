-- Document 01, "Judge" and "Write": the refusals of a list that both calls test, and those of Write before its buffer, in order.
use Rattle.std.specs.Prelude.{Ok}
use Rattle.std.specs.Prelude.{ℕ, List, length, leb}
use Rattle.grid.specs.declared.Panel.{Panel}
use Rattle.grid.specs.declared.Cell.{Cell}
use Rattle.grid.specs.Check.{Check}
use Rattle.grid.specs.declared.Refusal.TheVariants.{ListLength, CellOff, NotNeighbours, StepCount}
use Rattle.grid.specs.Panel.{area}
use Rattle.grid.specs.Bytes.{cells_in}
use Rattle.grid.specs.Check.{check_panel, expect, after}
use Rattle.list.specs.List.{whole_cells, all_on, all_steps}

-- 7, some cell is off the panel; 8, some two successive cells are not neighbours
abbrev pub check_walk : Panel → List Cell → Check
check_walk p l = expect (all_on p l) CellOff (expect (all_steps l) NotNeighbours (Ok tt))

-- 1; 18; 6, the list is empty or has an odd number of bytes; 7; 8; 15, more than mn − 1 steps, which are more than mn cells
abbrev pub check_list : Panel → List ℕ → Check
check_list p list =
    after (check_panel p)
    (expect (whole_cells (length list)) ListLength
    (after (check_walk p (cells_in list))
    (expect (leb (length (cells_in list)) (area p)) StepCount (Ok tt))))
