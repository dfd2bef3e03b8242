use Rattle.docs_core.proofs.MigrationSitesLemmas.{delta_fits, script_fits, site_fits, summary_fits}
use Rattle.docs_core.proofs.migration.a_text_reads_as_migrated.Goals as goal

pub returns-clause-site : goal.returns-clause-site
returns-clause-site c = site_fits

pub returns-clause-delta : goal.returns-clause-delta
returns-clause-delta c = delta_fits

pub returns-clause-summary : goal.returns-clause-summary
returns-clause-summary c = summary_fits

pub returns-clause-script : goal.returns-clause-script
returns-clause-script c = script_fits
