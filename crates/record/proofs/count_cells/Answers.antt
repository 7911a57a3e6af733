-- There is a cell for each letter, and the one in front.
use Rattle.std.specs.Prelude.{Ok}
use Rattle.std.proofs.Common.{ℕ, ◌≡◌, ◌+◌, ◌∙◌, sym, ap, length, arith}
use Rattle.grid.proofs.Tests.{after_good, answer_good}
use Rattle.step_letters.specs.Letters.{walk_from}
use Rattle.record.proofs.Walks.{length_walk}
use Rattle.record.proofs.count_cells.Goals as goal

pub returns : goal.returns
returns c =
    let l = c.args.letters.now in
    let known = sym c.check_known.ensures ∙ c.in_ok-check_known.was {u = tt} in
    let steps = sym c.check_steps.ensures ∙ c.in_ok-check_steps.was {u = tt} in
    let all : 1 + length l ≡ length (walk_from c.args.s l) = omega (arith, length_walk c.args.s l) in
    answer_good _ _ (sym (after_good _ known (sym steps))) (ap (λ (k : ℕ). Ok (record { 0 = k })) all)
