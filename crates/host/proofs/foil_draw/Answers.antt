-- The two parts are those of Draw's answer, and fit; the buffer is what Draw leaves.
use Rattle.host.proofs.Answers.{draw_fits}
use Rattle.host.proofs.foil_draw.Goals as goal

pub pack_cells-requires : goal.pack_cells-requires
pack_cells-requires c = draw_fits c.draw.ensures.draws
