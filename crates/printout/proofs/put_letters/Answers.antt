-- A letter for each step, and one step fewer than cells.
use Rattle.std.proofs.Common.{ℕ, ◌+◌, ◌∙◌, ap, arith}
use Rattle.grid.specs.Bytes.{cells_in}
use Rattle.step_letters.proofs.Lists.{length_letters}
use Rattle.printout.proofs.Texts.{steps_letters, letters_put}
use Rattle.printout.proofs.put_letters.Goals as goal

pub write_letters-requires : goal.write_letters-requires
write_letters-requires c = omega (arith, length_letters (cells_in c.args.list.now))

pub returns : goal.returns
returns c =
    let track = cells_in c.args.list.now in
    record {
      bytes = c.write_letters.ensures ∙ letters_put track c.args.out.now c.args.at;
      end = ap (λ (k : ℕ). c.args.at + k) (steps_letters track (omega arith) (c.steps_of-steps.ensures ∙ c.requires.cells_value));
    }
