use Rattle.list_core.proofs.FallbacksLawsLemmas.{begins}
use Rattle.list_core.proofs.laws.a_chain_begins_with_its_text.Goals as goal

pub returns : goal.returns
returns c = begins
