-- One number, and the other behind it.
use Rattle.text.specs.Field.{blank}
use Rattle.text.proofs.Puts.{field_and, puts_both}
use Rattle.text.proofs.write.put_two.Goals as goal

pub returns : goal.returns
returns c = puts_both (record { joined = field_and c.args.a blank _; fits = c.requires }) c.put_field-next.ensures c.put_field.ensures
