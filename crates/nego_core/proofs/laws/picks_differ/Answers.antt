use Rattle.nego_core.proofs.FilteringPicksDiffer.{picks_apart}
use Rattle.nego_core.proofs.laws.picks_differ.Goals as goal

pub returns : goal.returns
returns c = picks_apart
