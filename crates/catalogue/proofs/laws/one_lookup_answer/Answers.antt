use Rattle.catalogue.proofs.AskingLemmas.{one_lookup_answer}
use Rattle.catalogue.proofs.laws.one_lookup_answer.Goals as goal

pub returns : goal.returns
returns c = one_lookup_answer
