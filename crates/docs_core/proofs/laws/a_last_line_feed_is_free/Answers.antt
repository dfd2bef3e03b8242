use Rattle.site_docs.specs.SiteDocuments.{IsDeltaDocument, IsSiteDocument, IsSummaryDocument}
use Rattle.site_docs.specs.SiteDocuments.{delta_checks, site_checks, summary_checks}
use Rattle.map_docs.specs.MapsLabels.{ReadsAsLangMaps}
use Rattle.map_docs.specs.LabelsChecks.{langmaps_checks}
use Rattle.script_docs.specs.Reading.{IsScriptDocument, script_checks}
use Rattle.docs_core.proofs.LinesFreeLineFeed.{free}
use Rattle.docs_core.proofs.laws.a_last_line_feed_is_free.Goals as goal

pub returns-clause-site : goal.returns-clause-site
returns-clause-site c = free site_checks IsSiteDocument

pub returns-clause-delta : goal.returns-clause-delta
returns-clause-delta c = free delta_checks IsDeltaDocument

pub returns-clause-summary : goal.returns-clause-summary
returns-clause-summary c = free summary_checks IsSummaryDocument

pub returns-clause-script : goal.returns-clause-script
returns-clause-script c = free script_checks IsScriptDocument

pub returns-clause-labels : goal.returns-clause-labels
returns-clause-labels c = free langmaps_checks ReadsAsLangMaps
