-- The word, and the number with its line feed behind it.
use Rattle.printout.proofs.Texts.{refused_parts}
use Rattle.std.proofs.Common.{arith, length-append}
use Rattle.text.proofs.Decimals.{length_decimal}
use Rattle.text.proofs.Puts.{puts_both}
use Rattle.printout.proofs.put_refused.Goals as goal

pub put_field-requires : goal.put_field-requires
put_field-requires c = simp length-append (omega (arith, length_decimal 9 c.args.n (omega arith)))

pub returns : goal.returns
returns c = puts_both (refused_parts c.args.n c.args.out.now (omega arith) c.requires) c.put_bytes-at.ensures c.put_field.ensures
