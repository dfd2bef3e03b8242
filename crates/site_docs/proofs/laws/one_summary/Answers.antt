use Rattle.site_docs.proofs.ReadingOneDocument.{one_summary}
use Rattle.site_docs.proofs.laws.one_summary.Goals as goal

pub returns : goal.returns
returns c = one_summary
