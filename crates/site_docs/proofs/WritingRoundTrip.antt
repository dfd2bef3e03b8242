-- A document that was written passes all tests, and reads as what it was written for.
use Rattle.std.proofs.Common.{◌≡◌, ◌∙◌, ◌||◌, ◌++◌, ℕ, List, [], Bool, true, false, codes, refl}
use Rattle.std.proofs.Common.{inr}
use Rattle.std.specs.Prelude.{IsUtf8}
use Rattle.std.specs.Str.{bytes_eq}
use Rattle.cell_core.specs.SiteName.{IsSiteName}
use Rattle.serde_json.specs.Data.{Data}
use Rattle.serde_json.specs.Read.{read}
use Rattle.cata_core.specs.declared.delta.Delta.{Delta as DeltaState}
use Rattle.cata_core.specs.Site.{SiteState}
use Rattle.cata_core.specs.Summary.{SummaryState}
use Rattle.json_docs.specs.FaultChecks.{AllPass, Check, rows_checks}
use Rattle.row_docs.specs.Entries.{cells_values, stamps_values}
use Rattle.site_docs.specs.Documents.{delta_text, site_text}
use Rattle.site_docs.specs.Documents.{summary_text}
use Rattle.row_docs.specs.Kinds.{names_of}
use Rattle.row_docs.specs.Headers.{HasJust, header_checks, rows_in, subject_data, version_of}
use Rattle.site_docs.specs.SiteDocuments.{subject_checks}
use Rattle.site_docs.specs.Reading.{ReadsAsDelta, ReadsAsSite, ReadsAsSummary}
use Rattle.row_docs.specs.Ascending.{cell_checks, stamp_checks}
use Rattle.row_docs.specs.EntriesValid.{AreKeptCells, AreKeptStamps}
use Rattle.site_docs.specs.DocumentsValues.{delta_value, site_value, summary_value}
use Rattle.row_docs.specs.declared.kind.Kind.{Kind}
use Rattle.row_docs.specs.declared.kind.Kind.TheVariants.{Delta, Site, Summary}
use Rattle.row_docs.specs.declared.version.Version.{Version}
use Rattle.json_docs.proofs.FaultChecksLemmas.{AllPass-both}
use Rattle.row_docs.proofs.HeadersLemmas.{in_turn, some_member}
use Rattle.row_docs.proofs.EntriesWrittenRows.{cells_pass, entries_again, list_of-items_of}
use Rattle.row_docs.proofs.EntriesWrittenRows.{stamps_again}
use Rattle.row_docs.proofs.EntriesWrittenRows.{stamps_pass}
use Rattle.site_docs.proofs.WritingDocuments.{read-delta, read-site, read-summary}

-- ---- members by their names

rows_first : (rows kind subject version : Bool)
    → (rows || (kind || (subject || (version || false))))
    ≡ (kind || (version || (subject || (rows || false))))
rows_first true true subject version = refl
rows_first true false true true = refl
rows_first true false true false = refl
rows_first true false false true = refl
rows_first true false false false = refl
rows_first false true subject version = refl
rows_first false false true true = refl
rows_first false false true false = refl
rows_first false false false true = refl
rows_first false false false false = refl

-- the document of a site has the members of its kind
site_names : (name : List ℕ) (rows : List Data) → HasJust (names_of Site) (site_value name rows)
site_names name rows q =
    rw (
      some_member q (codes "cells"),
      some_member q (codes "kind"),
      some_member q
          (codes "site"),
      some_member q (codes "version"),
    )
    (rows_first (bytes_eq q (codes "cells")) (bytes_eq q (codes "kind")) (bytes_eq q (codes "site"))
    (bytes_eq q (codes "version")))

-- the document of a delta has the members of its kind
delta_names : (name : List ℕ) (rows : List Data)
    → HasJust (names_of Delta) (delta_value name rows)
delta_names name rows q =
    rw (
      some_member q (codes "cells"),
      some_member q (codes "kind"),
      some_member q
          (codes "to"),
      some_member q (codes "version"),
    )
    (rows_first (bytes_eq q (codes "cells")) (bytes_eq q (codes "kind")) (bytes_eq q (codes "to"))
    (bytes_eq q (codes "version")))

summary_names : (name : List ℕ) (rows : List Data)
    → HasJust (names_of Summary) (summary_value name rows)
summary_names name rows q =
    rw (
      some_member q (codes "kind"),
      some_member q (codes "owner"),
      some_member q
          (codes "stamps"),
      some_member q (codes "version"),
    )
    (in_turn (bytes_eq q (codes "kind")) (bytes_eq q (codes "owner"))
    (bytes_eq q (codes "stamps")) (bytes_eq q (codes "version")))

-- ---- documents

-- the tests after those of the header
abbrev rest_checks : Kind → (Version → List Data → Data → List Check) → Data → List Check
rest_checks kind checks d = subject_checks (version_of d) (subject_data kind d) ++ rows_checks
    (checks (version_of d)) [] (rows_in kind d)

-- bytes that read as the text of a site's document
pub reads_site : (bytes : List ℕ) (site : SiteState) → IsSiteName site.name
    → AreKeptCells site.cells → IsUtf8 bytes → read bytes ≡ read (site_text site)
    → ReadsAsSite bytes site
reads_site bytes site name kept utf8 same =
    let d = site_value site.name (cells_values site.cells) in
    let header : AllPass (header_checks Site d) =
    ((refl, refl), (inr refl, ((site_names site.name (cells_values site.cells), refl), tt))) in
    let rows = cells_pass site.cells kept in
    let rest : AllPass (rest_checks Site cell_checks d) =
    (refl, (name, rw (list_of-items_of (cells_values site.cells)) rows)) in (
      d,
      (utf8, same ∙ read-site site.name site.cells kept.each),
      AllPass-both (header_checks Site d) (rest_checks Site cell_checks d) header rest,
      record {
        name = refl;
        cells = rw (list_of-items_of (cells_values site.cells))
            (entries_again site.cells kept.each);
      },
    )

-- the text of a site's document reads as the site
pub site_again : (site : SiteState) → IsSiteName site.name → AreKeptCells site.cells
    → IsUtf8 (site_text site) → ReadsAsSite (site_text site) site
site_again site name kept utf8 = reads_site (site_text site) site name kept utf8 refl

-- bytes that read as the text of a delta's document
pub reads_delta : (bytes : List ℕ) (delta : DeltaState) → IsSiteName delta.addressee
    → AreKeptCells delta.cells → IsUtf8 bytes → read bytes ≡ read (delta_text delta)
    → ReadsAsDelta bytes delta
reads_delta bytes delta name kept utf8 same =
    let d = delta_value delta.addressee (cells_values delta.cells) in
    let names = delta_names delta.addressee (cells_values delta.cells) in
    let header : AllPass (header_checks Delta d) =
    ((refl, refl), (inr refl, ((names, refl), tt))) in
    let rows = cells_pass delta.cells kept in
    let rest : AllPass (rest_checks Delta cell_checks d) =
    (refl, (name, rw (list_of-items_of (cells_values delta.cells)) rows)) in (
      d,
      (utf8, same ∙ read-delta delta.addressee delta.cells kept.each),
      AllPass-both (header_checks Delta d) (rest_checks Delta cell_checks d) header rest,
      record {
        addressee = refl;
        cells = rw (list_of-items_of (cells_values delta.cells))
            (entries_again delta.cells kept.each);
      },
    )

-- the text of a delta's document reads as the delta
pub delta_again : (delta : DeltaState) → IsSiteName delta.addressee → AreKeptCells delta.cells
    → IsUtf8 (delta_text delta) → ReadsAsDelta (delta_text delta) delta
delta_again delta name kept utf8 = reads_delta (delta_text delta) delta name kept utf8 refl

-- bytes that read as the text of a summary's document
pub reads_summary : (bytes : List ℕ) (summary : SummaryState) → IsSiteName summary.owner
    → AreKeptStamps summary.stamps → IsUtf8 bytes → read bytes ≡ read (summary_text summary)
    → ReadsAsSummary bytes summary
reads_summary bytes summary name kept utf8 same =
    let d = summary_value summary.owner (stamps_values summary.stamps) in
    let header : AllPass (header_checks Summary d) = (
      (refl, refl),
      (
        inr refl,
        (
          (summary_names summary.owner (stamps_values summary.stamps), refl),
          tt,
        ),
      ),
    ) in
    let rows = stamps_pass summary.stamps kept in
    let rest : AllPass (rest_checks Summary stamp_checks d) =
    (refl, (name, rw (list_of-items_of (stamps_values summary.stamps)) rows)) in (
      d,
      (utf8, same ∙ read-summary summary.owner summary.stamps kept.each),
      AllPass-both (header_checks Summary d) (rest_checks Summary stamp_checks d) header rest,
      record {
        owner = refl;
        stamps = rw (list_of-items_of (stamps_values summary.stamps))
            (stamps_again summary.stamps kept.each);
      },
    )

-- the text of a summary's document reads as the summary
pub summary_again : (summary : SummaryState) → IsSiteName summary.owner
    → AreKeptStamps summary.stamps → IsUtf8 (summary_text summary)
    → ReadsAsSummary (summary_text summary) summary
summary_again summary name kept utf8 =
    reads_summary (summary_text summary) summary name kept utf8 refl
