use Rattle.std.proofs.Common.{inr, rules}
use Rattle.std.proofs.lemmas.Result.{err_from_is_err_and}
use Rattle.front_core.specs.Ask.{IsId}
use Rattle.front_core.proofs.ask.Lookup.read.Goals as goal

-- The id is one, and what refuses the reader refuses the question.
pub returns-in_err-reader : goal.returns-in_err-reader
returns-in_err-reader c =
    let p = err_from_is_err_and c.from_residual-in_err-reader.result
    c.from_residual-in_err-reader.ensures.1 in
    let id : IsId c.args.id.now = search rules in
    rw (p.1, p.2) (inr (id, c.in_err-reader.ensures))
