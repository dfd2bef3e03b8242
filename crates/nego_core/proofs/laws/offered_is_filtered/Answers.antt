use Rattle.nego_core.proofs.OfferLemmas.{offered_is_filtered}
use Rattle.nego_core.proofs.laws.offered_is_filtered.Goals as goal

pub returns : goal.returns
returns c = offered_is_filtered
