-- What the readers answer on the bytes of a document, and which refusals.
use Rattle.std.specs.Prelude.{◌≡◌, ℕ, List}
use Rattle.cata_core.specs.declared.delta.Delta.{Delta}
use Rattle.cata_core.specs.Site.{SiteState}
use Rattle.cata_core.specs.Summary.{SummaryState}
use Rattle.json_docs.specs.FaultChecks.{IsRefusal}
use Rattle.json_docs.specs.declared.fault.DocCause.{DocCause}
use Rattle.row_docs.specs.Reading.{Reads}
use Rattle.site_docs.specs.Documents.{delta_text, site_text, summary_text}
use Rattle.site_docs.specs.SiteDocuments.{IsDeltaDocument, IsSiteDocument, IsSummaryDocument}
use Rattle.site_docs.specs.SiteDocuments.{delta_checks, site_checks, summary_checks}

-- the bytes pass all tests of a site's document, and are this site's
abbrev pub ReadsAsSite : List ℕ → SiteState → Type 0
ReadsAsSite = Reads site_checks IsSiteDocument

-- the bytes pass all tests of a delta's document, and are this delta's
abbrev pub ReadsAsDelta : List ℕ → Delta → Type 0
ReadsAsDelta = Reads delta_checks IsDeltaDocument

-- the bytes pass all tests of a summary's document, and are this summary's
abbrev pub ReadsAsSummary : List ℕ → SummaryState → Type 0
ReadsAsSummary = Reads summary_checks IsSummaryDocument

-- the bytes are refused as a site's document, by the first test that fails
abbrev pub RefusesSite : List ℕ → DocCause → Type 0
RefusesSite = IsRefusal site_checks

-- the bytes are refused as a delta's document, by the first test that fails
abbrev pub RefusesDelta : List ℕ → DocCause → Type 0
RefusesDelta = IsRefusal delta_checks

-- the bytes are refused as a summary's document, by the first test that fails
abbrev pub RefusesSummary : List ℕ → DocCause → Type 0
RefusesSummary = IsRefusal summary_checks

-- ---- what is written

-- the text is that of the document of this site, and reads as it
abbrev pub IsSiteText : SiteState → List ℕ → Type 0
IsSiteText site doc = (doc ≡ site_text site) × ReadsAsSite doc site

-- the text is that of the document of this delta, and reads as it
abbrev pub IsDeltaText : Delta → List ℕ → Type 0
IsDeltaText delta doc = (doc ≡ delta_text delta) × ReadsAsDelta doc delta

-- the text is that of the document of this summary, and reads as it
abbrev pub IsSummaryText : SummaryState → List ℕ → Type 0
IsSummaryText summary doc = (doc ≡ summary_text summary) × ReadsAsSummary doc summary
