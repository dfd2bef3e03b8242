use Rattle.query_docs.proofs.BundlingLemmas.{bundle_live}
use Rattle.docs_core.proofs.laws.a_bundle_is_of_the_live_labels.Goals as goal

pub returns : goal.returns
returns c = bundle_live
