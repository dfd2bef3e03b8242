use Rattle.std.proofs.lemmas.Result.{err_from_is_err_and}
use Rattle.site_docs.proofs.document.site_documents.summary_of_members.Goals as goal

pub returns-in_err-owner : goal.returns-in_err-owner
returns-in_err-owner c =
    let p = err_from_is_err_and c.from_residual.result c.from_residual.ensures.1 in
    rw (p.1, p.2) c.in_err-owner.ensures.err
