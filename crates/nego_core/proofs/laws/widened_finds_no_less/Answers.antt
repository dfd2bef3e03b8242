use Rattle.nego_core.proofs.WideningLemmas.{nothing_narrow}
use Rattle.nego_core.proofs.laws.widened_finds_no_less.Goals as goal

pub returns : goal.returns
returns c = nothing_narrow
