use Rattle.cata_core.proofs.RunsNeededLemmas.{two_catalogues, best_not_found}
use Rattle.cata_core.proofs.laws.settled_is_needed.Goals as goal

pub returns-clause-catalogues : goal.returns-clause-catalogues
returns-clause-catalogues c = two_catalogues

pub returns-clause-best : goal.returns-clause-best
returns-clause-best c = best_not_found
