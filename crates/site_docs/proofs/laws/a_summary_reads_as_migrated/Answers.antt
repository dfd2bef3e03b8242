use Rattle.site_docs.proofs.DocumentsMigrationLemmas.{summary_migrated}
use Rattle.site_docs.proofs.laws.a_summary_reads_as_migrated.Goals as goal

pub returns : goal.returns
returns c = summary_migrated
