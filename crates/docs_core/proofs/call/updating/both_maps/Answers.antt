use Rattle.std.proofs.Common.{inr}
use Rattle.std.proofs.lemmas.Result.{err_from_is_err_and}
use Rattle.map_docs.proofs.MapsLabelsLemmas.{else_by}
use Rattle.docs_core.proofs.call.updating.both_maps.Goals as goal

-- the old ones were read, and the new ones are refused
pub returns-in_err-new : goal.returns-in_err-new
returns-in_err-new c =
    let p = err_from_is_err_and c.from_residual-in_err-new.result
    c.from_residual-in_err-new.ensures.1 in
    rw (p.1, p.2) (else_by c.in_err-new.ensures
    (λ h. inr (c.in_ok-old.old, c.in_ok-old.ensures, h)))
