use Rattle.front_core.proofs.OpenSiteLemmas.{merged_again, taken_again}
use Rattle.front_core.proofs.laws.a_join_can_be_repeated.Goals as goal

pub returns-clause-merge : goal.returns-clause-merge
returns-clause-merge c = merged_again

pub returns-clause-take : goal.returns-clause-take
returns-clause-take c = taken_again
