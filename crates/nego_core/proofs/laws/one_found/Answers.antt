use Rattle.nego_core.proofs.LookupPlacesLemmas.{one_found}
use Rattle.nego_core.proofs.laws.one_found.Goals as goal

pub returns : goal.returns
returns c = one_found
