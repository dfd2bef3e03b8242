use Rattle.std.proofs.Common.{◌∙◌}
use Rattle.std.proofs.lemmas.Result.{err_from_is_err_and}
use Rattle.front_core.proofs.WrittenLemmas.{lookup_in}
use Rattle.front_core.proofs.ask.Lookup.answer_in.Goals as goal

-- the part has the live labels that the line is of
pub returns : goal.returns
returns c = λ site written.
    lookup_in c.answer.result c.in_ok-part.part site c.args.self.now
    (c.in_ok-part.ensures site written) c.answer.ensures

-- the message is refused for want of memory alone
pub returns-in_err-part : goal.returns-in_err-part
returns-in_err-part c = λ site compact.
    let p = err_from_is_err_and c.from_residual.result c.from_residual.ensures.1 in
    rw p.1 (p.2 ∙ c.in_err-part.ensures site compact)
