use Rattle.nego_core.proofs.ChoosingUnweightedLemmas.{first_held, looked_up_plain}
use Rattle.nego_core.proofs.laws.unweighted_lookup.Goals as goal

pub returns : goal.returns
returns c =
    λ items held found unweighted.
    (first_held items held found unweighted, looked_up_plain items held found unweighted)
