use Rattle.site_docs.proofs.PlainReads.{plain_delta}
use Rattle.site_docs.proofs.document.site_documents.delta_from.Goals as goal

pub returns-in-Some : goal.returns-in-Some
returns-in-Some c = rw c.from_catalogue.ensures (plain_delta c.args.bytes.now _ _ c.in-Some.ensures)
