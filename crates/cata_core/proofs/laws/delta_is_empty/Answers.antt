use Rattle.cata_core.proofs.DeltaLeastLemmas.{delta_empty}
use Rattle.cata_core.proofs.laws.delta_is_empty.Goals as goal

pub returns : goal.returns
returns c = λ own sender m agree. delta_empty own sender m agree
