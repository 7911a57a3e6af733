-- What the walk notes are the positions.
use native.Mathlib.Omega.{arith}
use mathlib.Core.Path.{ap, ◌∙◌}
use mathlib.Core.List.{List, map}
use Rattle.grid.specs.declared.Cell.{Cell}
use Rattle.grid.specs.Bytes.{cell_of, cells_in}
use Rattle.list.proofs.Cells.{length_cells}
use Rattle.probe_walk.specs.Probes.{cells_read, positions}
use Rattle.probe_walk.proofs.Sheets.{noted_positions_lem}
use Rattle.probe_walk.proofs.Unfound.{read_small}
use Rattle.probe_walk.proofs.find_probes.Goals as goal

pub overflow_cast-read : goal.overflow_cast-read
overflow_cast-read c =
    let q = map cell_of c.pairs.result.now in
    let l = cells_in c.args.list.now in
    record { fits = omega (arith, c.find-read.ensures.told, read_small q l, c.requires.searched.short, length_cells c.args.list.now) }

pub returns-clause-found : goal.returns-clause-found
returns-clause-found c =
    let q = map cell_of c.pairs.result.now in
    let l = cells_in c.args.list.now in
    let probed = c.pairs.ensures.cells in
    let found = c.noted-positions.ensures ∙ noted_positions_lem q l c.find-read.ensures.notes ∙ ap (λ (k : List Cell). positions k l) probed in
    let read = c.find-read.ensures.told ∙ ap (λ (k : List Cell). cells_read k l) probed in
    λ i. record { positions = found i; read = record { 0 = read i } }
