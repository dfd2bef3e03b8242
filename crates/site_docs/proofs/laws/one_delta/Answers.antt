use Rattle.site_docs.proofs.ReadingOneDocument.{one_delta}
use Rattle.site_docs.proofs.laws.one_delta.Goals as goal

pub returns : goal.returns
returns c = one_delta
