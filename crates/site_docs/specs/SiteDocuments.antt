-- The documents that name a site: their tests in order, and what they read as. Project rule.
use Rattle.std.specs.Prelude.{◌≡◌, true, ℕ, List, [], ◌∷◌, ◌++◌, Option, Some, is_some, unwrap_or}
use Rattle.cell_core.specs.SiteName.{IsSiteName}
use Rattle.serde_json.specs.Data.{Data}
use Rattle.cata_core.specs.declared.delta.Delta.{Delta as DeltaState}
use Rattle.cata_core.specs.Site.{SiteState}
use Rattle.cata_core.specs.Summary.{SummaryState}
use Rattle.json_docs.specs.FaultChecks.{Check, check, rows_checks}
use Rattle.json_docs.specs.declared.fault.DocCause.TheVariants.{Shape, SiteName}
use Rattle.row_docs.specs.Headers.{header_checks, rows_in, subject_data, version_of}
use Rattle.row_docs.specs.Ascending.{AreEntries, cell_checks, entry_in, stamp_checks, stamped_in}
use Rattle.row_docs.specs.ShapesRows.{site_in}
use Rattle.row_docs.specs.declared.kind.Kind.{Kind}
use Rattle.row_docs.specs.declared.kind.Kind.TheVariants.{Delta, Site, Summary}
use Rattle.row_docs.specs.declared.version.Version.{Version}
use Rattle.json_docs.specs.declared.fault.Spot.TheVariants as spot

-- the name that the document has, as its version writes it
abbrev pub named_in : Kind → Data → Option (List ℕ)
named_in kind d = site_in (version_of d) (subject_data kind d)

-- the member that names a site: its kind, then whether it is a name; a padded name always is one
abbrev pub subject_checks : Version → Data → List Check
subject_checks version subject =
    check (is_some (site_in version subject) ≡ true) (Shape spot.Document)
    ∷ check (IsSiteName (unwrap_or (site_in version subject) [])) SiteName
    ∷ []

-- all tests of a document that names a site
abbrev pub document_checks : Kind → (Version → List Data → Data → List Check) → Data → List Check
document_checks kind checks d =
    header_checks kind d
    ++ (subject_checks (version_of d) (subject_data kind d)
    ++ rows_checks (checks (version_of d)) [] (rows_in kind d))

-- all tests of a site's document
abbrev pub site_checks : Data → List Check
site_checks d = document_checks Site cell_checks d

-- all tests of a delta's document
abbrev pub delta_checks : Data → List Check
delta_checks d = document_checks Delta cell_checks d

-- all tests of a summary's document
abbrev pub summary_checks : Data → List Check
summary_checks d = document_checks Summary stamp_checks d

-- ---- what a document reads as

-- the data name this site, and their rows are its entries
pub record IsSiteDocument (d : Data) (site : SiteState) : Type 0 where
  pub name : named_in Site d ≡ Some site.name
  pub cells : AreEntries (entry_in (version_of d)) (rows_in Site d) site.cells

-- the data name the site that the delta is for, and their rows are its entries
pub record IsDeltaDocument (d : Data) (delta : DeltaState) : Type 0 where
  pub addressee : named_in Delta d ≡ Some delta.addressee
  pub cells : AreEntries (entry_in (version_of d)) (rows_in Delta d) delta.cells

-- the data name the site whose summary it is, and their rows are its keys and stamps
pub record IsSummaryDocument (d : Data) (summary : SummaryState) : Type 0 where
  pub owner : named_in Summary d ≡ Some summary.owner
  pub stamps : AreEntries (stamped_in (version_of d)) (rows_in Summary d) summary.stamps
