use Rattle.cata_core.proofs.DeltaLeastLemmas.{delta_least}
use Rattle.cata_core.proofs.laws.delta_is_least.Goals as goal

pub returns : goal.returns
returns c = λ own sender part m agree. delta_least own sender m agree part
