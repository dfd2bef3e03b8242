use Rattle.std.proofs.lemmas.Result.{err_from_is_err_and}
use Rattle.site_docs.proofs.SiteDocumentsLemmas.{refused_before}
use Rattle.site_docs.proofs.document.site_documents.read_named.Goals as goal

pub returns-in_err-tested-clause-err : goal.returns-in_err-tested-clause-err
returns-in_err-tested-clause-err g c =
    let p = err_from_is_err_and c.from_residual.result c.from_residual.ensures.1 in
    rw (p.1, p.2) (refused_before c.args.kind g.R.Rows.Checks c.args.bytes.now _
    c.in_err-tested.ensures)
