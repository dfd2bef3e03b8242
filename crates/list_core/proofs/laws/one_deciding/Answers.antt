use Rattle.list_core.proofs.DecidingLemmas.{one_place}
use Rattle.list_core.proofs.laws.one_deciding.Goals as goal

pub returns : goal.returns
returns c = one_place
