use Rattle.catalogue.proofs.AskingLemmas.{one_lookup_answer_by}
use Rattle.catalogue.proofs.laws.one_lookup_answer_by.Goals as goal

pub returns-clause-one : goal.returns-clause-one
returns-clause-one c = one_lookup_answer_by
