use Rattle.nego_core.proofs.FilteringLemmas.{one_filtered}
use Rattle.nego_core.proofs.laws.one_filtered.Goals as goal

pub returns : goal.returns
returns c = one_filtered
