use Rattle.cata_core.proofs.RunsNeededLemmas.{settled_inconsistent, unequal_sites}
use Rattle.cata_core.proofs.laws.consistent_is_needed.Goals as goal

pub returns-clause-settled : goal.returns-clause-settled
returns-clause-settled c = settled_inconsistent

pub returns-clause-held : goal.returns-clause-held
returns-clause-held c = unequal_sites
