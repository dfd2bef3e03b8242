use Rattle.nego_core.proofs.ChoosingCandidatesLemmas.{one_lookup}
use Rattle.nego_core.proofs.laws.one_lookup.Goals as goal

pub returns : goal.returns
returns c = one_lookup
