use Rattle.cata_core.proofs.DeltaLemmas.{nothing_lost}
use Rattle.cata_core.proofs.laws.delta_suffices.Goals as goal

pub returns : goal.returns
returns c = nothing_lost
