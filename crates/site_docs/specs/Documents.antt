-- The texts of the documents of sites, deltas and summaries, version 2.
use Rattle.std.specs.Prelude.{ℕ, List}
use Rattle.cata_core.specs.declared.delta.Delta.{Delta}
use Rattle.cata_core.specs.Site.{SiteState}
use Rattle.cata_core.specs.Summary.{SummaryState}
use Rattle.row_docs.specs.Entries.{cells_values, stamps_values}
use Rattle.row_docs.specs.WritingTexts.{text}
use Rattle.site_docs.specs.DocumentsValues.{delta_value, site_value, summary_value}

-- the document of a site, as it is written
abbrev pub site_text : SiteState → List ℕ
site_text site = text (site_value site.name (cells_values site.cells))

-- the document of a delta, as it is written
abbrev pub delta_text : Delta → List ℕ
delta_text delta = text (delta_value delta.addressee (cells_values delta.cells))

-- the document of a summary, as it is written
abbrev pub summary_text : SummaryState → List ℕ
summary_text summary = text (summary_value summary.owner (stamps_values summary.stamps))
