use Rattle.nego_core.proofs.WideningLemmas.{first_kept}
use Rattle.nego_core.proofs.laws.widened_keeps_the_first_item.Goals as goal

pub returns : goal.returns
returns c = first_kept
