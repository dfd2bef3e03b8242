use Rattle.nego_core.proofs.ChoosingFoundCandidates.{found_candidate, found_open, none_open}
use Rattle.nego_core.proofs.laws.found_is_a_candidate.Goals as goal

pub returns-clause-candidate : goal.returns-clause-candidate
returns-clause-candidate c = found_candidate

pub returns-clause-open : goal.returns-clause-open
returns-clause-open c = found_open

pub returns-clause-none : goal.returns-clause-none
returns-clause-none c = none_open
