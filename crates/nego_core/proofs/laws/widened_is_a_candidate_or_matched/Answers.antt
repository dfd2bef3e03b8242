use Rattle.nego_core.proofs.WideningLemmas.{found_among, found_of_item}
use Rattle.nego_core.proofs.laws.widened_is_a_candidate_or_matched.Goals as goal

pub returns-clause-open : goal.returns-clause-open
returns-clause-open c = found_among

pub returns-clause-item : goal.returns-clause-item
returns-clause-item c = found_of_item
