use Rattle.nego_core.proofs.FilteringEach.{has_each}
use Rattle.nego_core.proofs.laws.filtered_has_each.Goals as goal

pub returns : goal.returns
returns c = has_each
