-- The cell with the number place − 1, whose coordinates are bytes.
use native.Mathlib.Omega.{arith}
use Prim.Native.Nat.{◌-◌, ◌*◌}
use mathlib.Core.Path.{◌∙◌}
use Rattle.list.proofs.Cells.{cell_bytes}
use Rattle.list.proofs.Indexed.{two_bytes, cell_index}
use Rattle.edit_list.proofs.step.cell_no.Goals as goal

pub overflow_mul-place : goal.overflow_mul-place
overflow_mul-place c = let a = c.args in omega (arith, two_bytes a.list.now (a.place - 1) (omega arith))

pub cell_at-requires : goal.cell_at-requires
cell_at-requires c = let a = c.args in two_bytes a.list.now (a.place - 1) (omega arith)

pub returns : goal.returns
returns c =
    let a = c.args in (
      c.cell_at.ensures ∙ cell_index a.list.now (a.place - 1) (omega arith),
      cell_bytes a.list.now (λ i. (c.type_inv.list i).fits) (2 * (a.place - 1)) c.cell_at.ensures,
    )
