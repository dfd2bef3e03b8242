use Rattle.site_docs.proofs.ReadingOneDocument.{one_site}
use Rattle.site_docs.proofs.laws.one_site.Goals as goal

pub returns : goal.returns
returns c = one_site
