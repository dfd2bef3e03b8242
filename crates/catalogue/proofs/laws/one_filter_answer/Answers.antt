use Rattle.catalogue.proofs.AskingLemmas.{one_filter_answer}
use Rattle.catalogue.proofs.laws.one_filter_answer.Goals as goal

pub returns : goal.returns
returns c = one_filter_answer
