-- A bulge asks for room for two cells more.
use native.Mathlib.Omega.{arith}
use Rattle.edit_list.proofs.Made.{count_bulged}
use Rattle.edit_list.proofs.make.Goals as goal

pub bulge-requires-clause-held : goal.bulge-requires-clause-held
bulge-requires-clause-held c =
    let a = c.args in
    let can = c.requires.can in
    omega (arith, c.requires.room, count_bulged a.list.now a.cells a.e c.requires.held can.panel can.can c.in-Bulge.is)
