-- Flags, mirrored cells and row are those of the definition.
use Rattle.table.specs.Table.{placing_from}
use Rattle.table.proofs.Placing.from_to.Goals as goal

pub returns : goal.returns
unfolding placing_from
returns c =
    rw (
      c.row_of.ensures,
      c.turn_if.ensures,
      c.turn_if-2.ensures,
      c.is_turned-turn.ensures,
      c.mirror_cell-u.ensures,
      c.mirror_cell-v.ensures,
      c.is_mirrored-across.ensures,
      c.is_mirrored-down.ensures,
    )
