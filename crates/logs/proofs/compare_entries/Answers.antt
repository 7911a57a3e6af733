-- The tests of the laser's log, then those of the camera's; each leaves its marks, by which the cells are counted.
use mathlib.Core.Path.{sym, ◌∙◌}
use Rattle.logs.proofs.Passed.{ones_held, both_good, marked}
use Rattle.logs.proofs.compare_entries.Goals as goal

pub check_log-requires-2-clause-ready : goal.check_log-requires-2-clause-ready
check_log-requires-2-clause-ready c = ones_held c.requires.clean (c.check_log.ensures.marks (c.in_ok-check_log.was {u = tt}))

pub invariant_of-logs : goal.invariant_of-logs
invariant_of-logs c =
    let laser = c.in_ok-check_log.was {u = tt} in
    let camera = c.in_ok-check_log-2.was {u = tt} in
    record {
      good = rw (c.entries.ensures, c.entries-2.ensures)
          (both_good _ _ c.requires.good (sym c.check_log.ensures.told ∙ laser) (sym c.check_log-2.ensures.told ∙ camera));
    }

pub count_cells-requires : goal.count_cells-requires
count_cells-requires c =
    rw (c.entries.ensures, c.entries-2.ensures)
    (marked _ _ c.requires.clean (c.check_log.ensures.marks (c.in_ok-check_log.was {u = tt}))
    (c.check_log-2.ensures.marks (c.in_ok-check_log-2.was {u = tt})))
