use Rattle.docs_core.proofs.PartLaws.{one_bundle}
use Rattle.docs_core.proofs.laws.one_bundle.Goals as goal

pub returns : goal.returns
returns c = one_bundle
