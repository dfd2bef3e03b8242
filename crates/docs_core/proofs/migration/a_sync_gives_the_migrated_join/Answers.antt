use Rattle.docs_core.proofs.MigrationSitesLemmas.{sync_migrated}
use Rattle.docs_core.proofs.migration.a_sync_gives_the_migrated_join.Goals as goal

pub returns : goal.returns
returns c = sync_migrated
