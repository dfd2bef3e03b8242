use Rattle.site_docs.proofs.DocumentsMigrationLemmas.{delta_migrated}
use Rattle.site_docs.proofs.laws.a_delta_reads_as_migrated.Goals as goal

pub returns : goal.returns
returns c = delta_migrated
