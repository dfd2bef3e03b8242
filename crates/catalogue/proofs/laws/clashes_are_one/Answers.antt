use Rattle.catalogue.proofs.ClashLemmas.{clash_not_agree, clash_is_one}
use Rattle.catalogue.proofs.laws.clashes_are_one.Goals as goal

pub returns-clause-differ : goal.returns-clause-differ
returns-clause-differ c = clash_not_agree

pub returns-clause-one : goal.returns-clause-one
returns-clause-one c = clash_is_one
