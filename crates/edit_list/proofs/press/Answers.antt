-- The cells behind the detour slide down over it, and what they leave behind is cleared.
use native.Mathlib.Omega.{arith}
use Rattle.edit_list.proofs.Made.{detour_within, press_made}
use Rattle.edit_list.proofs.press.Goals as goal

pub copy_within-requires-clause-start_le_end : goal.copy_within-requires-clause-start_le_end
copy_within-requires-clause-start_le_end c =
    let a = c.args in
    omega (arith, detour_within a.list.now a.cells a.e c.requires.held c.requires.can.panel c.requires.can.can c.requires.kind)

pub copy_within-requires-clause-dest_in_bounds : goal.copy_within-requires-clause-dest_in_bounds
copy_within-requires-clause-dest_in_bounds c =
    let a = c.args in
    let within = detour_within a.list.now a.cells a.e c.requires.held c.requires.can.panel c.requires.can.can c.requires.kind in
    omega (arith, within, c.requires.held)

pub overflow_sub-cells : goal.overflow_sub-cells
overflow_sub-cells c =
    let a = c.args in
    omega (arith, detour_within a.list.now a.cells a.e c.requires.held c.requires.can.panel c.requires.can.can c.requires.kind)

pub returns : goal.returns
returns c =
    let a = c.args in
    press_made a.list.now a.cells a.e c.requires.held c.requires.can.panel c.requires.can.can c.requires.kind
    c.copy_within.ensures.after c.clear_behind.ensures
