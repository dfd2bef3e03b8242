use Rattle.docs_core.proofs.SitesChecksLemmas.{merged_without, synced_same, taken_same}
use Rattle.docs_core.proofs.laws.checks_take_the_same.Goals as goal

pub returns-clause-taken : goal.returns-clause-taken
returns-clause-taken c = taken_same

pub returns-clause-synced : goal.returns-clause-synced
returns-clause-synced c = synced_same

pub returns-clause-merged : goal.returns-clause-merged
returns-clause-merged c = merged_without
