use Rattle.nego_core.proofs.FilteringUnweighted.{all_matches}
use Rattle.nego_core.proofs.laws.unweighted_filtering.Goals as goal

pub returns : goal.returns
returns c = all_matches
