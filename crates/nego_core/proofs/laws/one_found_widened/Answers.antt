use Rattle.nego_core.proofs.WideningFoundLemmas.{one_found_widened}
use Rattle.nego_core.proofs.laws.one_found_widened.Goals as goal

pub returns : goal.returns
returns c = one_found_widened
