use Rattle.site_docs.proofs.DocumentsMigrationLemmas.{site_migrated}
use Rattle.site_docs.proofs.laws.a_site_reads_as_migrated.Goals as goal

pub returns : goal.returns
returns c = site_migrated
