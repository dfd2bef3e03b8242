use Rattle.site_docs.specs.SiteDocuments.{delta_checks, site_checks, summary_checks}
use Rattle.row_docs.specs.declared.kind.Kind.TheVariants.{Delta, Site, Summary}
use Rattle.map_docs.specs.LabelsChecks.{langmaps_checks}
use Rattle.script_docs.specs.Reading.{script_checks}
use Rattle.docs_core.proofs.SitesOneRefusal.{cells_named, langmaps, one_cause, scripts}
use Rattle.docs_core.proofs.SitesOneRefusal.{stamps_named}
use Rattle.docs_core.proofs.laws.one_refusal.Goals as goal

pub returns-clause-site : goal.returns-clause-site
returns-clause-site c = one_cause site_checks (cells_named Site)

pub returns-clause-delta : goal.returns-clause-delta
returns-clause-delta c = one_cause delta_checks (cells_named Delta)

pub returns-clause-summary : goal.returns-clause-summary
returns-clause-summary c = one_cause summary_checks (stamps_named Summary)

pub returns-clause-script : goal.returns-clause-script
returns-clause-script c = one_cause script_checks scripts

pub returns-clause-labels : goal.returns-clause-labels
returns-clause-labels c = one_cause langmaps_checks langmaps
