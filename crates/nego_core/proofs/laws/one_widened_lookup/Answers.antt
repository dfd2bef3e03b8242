use Rattle.nego_core.proofs.WideningLemmas.{one_widened}
use Rattle.nego_core.proofs.laws.one_widened_lookup.Goals as goal

pub returns : goal.returns
returns c = one_widened
