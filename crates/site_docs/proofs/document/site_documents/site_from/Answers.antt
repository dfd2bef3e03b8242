use Rattle.site_docs.proofs.PlainReads.{plain_site}
use Rattle.site_docs.proofs.document.site_documents.site_from.Goals as goal

pub returns-in-Some : goal.returns-in-Some
returns-in-Some c = rw c.from_catalogue.ensures (plain_site c.args.bytes.now _ _ c.in-Some.ensures)
