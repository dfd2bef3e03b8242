use Rattle.std.proofs.Common.{inr}
use Rattle.std.proofs.lemmas.Result.{err_from_is_err_and}
use Rattle.map_docs.proofs.MapsLabelsLemmas.{else_by}
use Rattle.query_docs.proofs.changes.changes_document.Goals as goal

pub returns-in_err-after : goal.returns-in_err-after
returns-in_err-after c =
    let p = err_from_is_err_and c.from_residual-in_err-after.result
    c.from_residual-in_err-after.ensures.1 in
    rw (p.1, p.2) (else_by c.in_err-after.ensures (λ h. inr
    (c.in_ok-before.before, c.in_ok-before.ensures, h)))
