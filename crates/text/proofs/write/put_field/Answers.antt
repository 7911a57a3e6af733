-- The digits, and the byte behind them.
use Rattle.std.proofs.Common.{refl}
use Rattle.text.proofs.Puts.{puts_both}
use Rattle.text.proofs.write.put_field.Goals as goal

pub returns : goal.returns
returns c = puts_both (record { joined = refl; fits = c.requires }) c.put_decimal-next.ensures c.put_byte.ensures
