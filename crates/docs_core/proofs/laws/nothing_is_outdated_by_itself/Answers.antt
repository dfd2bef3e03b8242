use Rattle.docs_core.proofs.OutdatedLemmas.{none_of_one}
use Rattle.docs_core.proofs.laws.nothing_is_outdated_by_itself.Goals as goal

pub returns : goal.returns
returns c = none_of_one
