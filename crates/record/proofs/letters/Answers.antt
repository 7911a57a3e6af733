-- What was found says whether the record is refused; then the part is the empty one at the front.
use Rattle.std.proofs.Common.{◌≡◌, ◌∙◌, [], refl, sym, arith}
use Rattle.grid.proofs.Tests.{answer_refused}
use Rattle.record.specs.Read.{letters_place}
use Rattle.record.proofs.Answers.{record_refused}
use Rattle.record.proofs.letters.Goals as goal

pub returns-in-Err : goal.returns-in-Err
returns-in-Err c =
    let f = c.args.file.now in
    let e = record_refused f (sym c.find_record.ensures ∙ c.in-Err.is) in
    let front : 0 ≡ letters_place f = answer_refused (λ r. 0) _ e in
    record { part = record { bytes = answer_refused (λ r. []) _ e; block = refl; place = omega (arith, front) } }
