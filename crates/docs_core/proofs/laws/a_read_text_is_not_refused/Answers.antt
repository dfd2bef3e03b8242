use Rattle.site_docs.specs.SiteDocuments.{IsDeltaDocument, IsSiteDocument, IsSummaryDocument}
use Rattle.site_docs.specs.SiteDocuments.{delta_checks, site_checks, summary_checks}
use Rattle.row_docs.specs.declared.kind.Kind.TheVariants.{Delta, Site, Summary}
use Rattle.map_docs.specs.LabelsChecks.{langmaps_checks}
use Rattle.map_docs.specs.MapsLabels.{ReadsAsLangMaps}
use Rattle.script_docs.specs.Reading.{IsScriptDocument, script_checks}
use Rattle.docs_core.proofs.SitesOneRefusal.{cells_named, langmaps, read_not_refused, scripts}
use Rattle.docs_core.proofs.SitesOneRefusal.{stamps_named}
use Rattle.docs_core.proofs.laws.a_read_text_is_not_refused.Goals as goal

pub returns-clause-site : goal.returns-clause-site
returns-clause-site c = read_not_refused site_checks (cells_named Site) IsSiteDocument

pub returns-clause-delta : goal.returns-clause-delta
returns-clause-delta c = read_not_refused delta_checks (cells_named Delta) IsDeltaDocument

pub returns-clause-summary : goal.returns-clause-summary
returns-clause-summary c = read_not_refused summary_checks (stamps_named Summary) IsSummaryDocument

pub returns-clause-script : goal.returns-clause-script
returns-clause-script c = read_not_refused script_checks scripts IsScriptDocument

pub returns-clause-labels : goal.returns-clause-labels
returns-clause-labels c = read_not_refused langmaps_checks langmaps ReadsAsLangMaps
