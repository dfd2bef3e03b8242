use Rattle.docs_core.proofs.UpdatingLaws.{one_list}
use Rattle.docs_core.proofs.UpdatingLemmas.{there_are_changes}
use Rattle.docs_core.proofs.laws.one_list_of_changes.Goals as goal

pub returns-clause-there : goal.returns-clause-there
returns-clause-there c = there_are_changes

pub returns-clause-one : goal.returns-clause-one
returns-clause-one c = one_list
