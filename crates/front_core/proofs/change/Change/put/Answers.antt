use Rattle.std.proofs.Common.{inr}
use Rattle.std.proofs.lemmas.Result.{err_from_is_err_and}
use Rattle.front_core.proofs.change.Change.put.Goals as goal

pub returns-in_err-label : goal.returns-in_err-label
returns-in_err-label c =
    let p = err_from_is_err_and c.from_residual-in_err-label.result
    c.from_residual-in_err-label.ensures.1 in
    let key = c.in_ok-key.ensures in
    rw (p.1, p.2) (inr ((key.0, c.in_ok-key.key.lang, key.2), c.in_err-label.ensures))
