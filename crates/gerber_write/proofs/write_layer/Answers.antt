-- A list that is not refused has its layer put, if both buffers have room, and the digits' bytes cleared.
use Rattle.std.proofs.Common.{rules}
use Rattle.gerber_write.proofs.Made.{made}
use Rattle.gerber_write.proofs.write_layer.Goals as goal

pub returns : goal.returns
returns c =
    let n = c.layer_length-bytes.ensures.0 in
    made (search rules) (search rules) (search rules) n c.put_layer.ensures c.clear_front.ensures
