use Rattle.docs_core.proofs.SitesChecksLemmas.{merged_in_time, synced_in_time, taken_in_time}
use Rattle.docs_core.proofs.laws.what_comes_in_is_in_the_limit.Goals as goal

pub returns-clause-taken : goal.returns-clause-taken
returns-clause-taken c = taken_in_time

pub returns-clause-synced : goal.returns-clause-synced
returns-clause-synced c = synced_in_time

pub returns-clause-merged : goal.returns-clause-merged
returns-clause-merged c = merged_in_time
