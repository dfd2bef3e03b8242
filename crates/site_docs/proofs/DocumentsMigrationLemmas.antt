-- What is read of a site, a delta or a summary of version 1 is what its plain data become.
use Rattle.std.proofs.Common.{◌≡◌, ◌∙◌, ℕ, List, ap, sym}
use Rattle.std.specs.Prelude.{Some}
use Rattle.cell_core.specs.SiteName.{padded_name}
use Rattle.cata_core.specs.Site.{SiteState}
use Rattle.cata_core.specs.Summary.{SummaryState}
use Rattle.cata_core.specs.declared.delta.Delta.{Delta as DeltaState}
use Rattle.cata_core.specs.SiteMigration.{OldDelta, OldSite}
use Rattle.cata_core.specs.SiteMigration.{OldSummary, migrated_delta}
use Rattle.cata_core.specs.SiteMigration.{migrated_site, migrated_summary}
use Rattle.serde_json.specs.Data.{Data}
use Rattle.json_docs.specs.Parts.{u32_in}
use Rattle.row_docs.specs.Headers.{rows_in, subject_data, version_of}
use Rattle.site_docs.specs.SiteDocuments.{IsDeltaDocument, IsSiteDocument, IsSummaryDocument}
use Rattle.site_docs.specs.SiteDocuments.{named_in}
use Rattle.row_docs.specs.declared.kind.Kind.{Kind}
use Rattle.site_docs.specs.DocumentsMigration.{IsOldDeltaDocument}
use Rattle.site_docs.specs.DocumentsMigration.{IsOldSiteDocument, IsOldSummaryDocument}
use Rattle.row_docs.specs.declared.kind.Kind.TheVariants as kind
use Rattle.row_docs.specs.declared.version.Version.TheVariants.{One}
use Rattle.row_docs.proofs.ShapesMigrationLemmas.{entries_migrated, mapped_by, stamps_migrated}

subject_number : (kind : Kind) (d : Data) (name : List ℕ) → version_of d ≡ One
    → named_in kind d ≡ Some name
    → (n : ℕ) × (u32_in (subject_data kind d) ≡ Some n) × (padded_name n ≡ name)
subject_number kind d name first named =
    mapped_by padded_name (u32_in (subject_data kind d)) name (rw first at named)

-- a site is read as the migrated site that its document has
pub site_migrated : (d : Data) (site : SiteState) → version_of d ≡ One → IsSiteDocument d site
    → (old : OldSite) × IsOldSiteDocument d old × (site ≡ migrated_site old)
site_migrated d site first reads =
    let subject = subject_number kind.Site d site.name first reads.name in
    let cells = entries_migrated (rows_in kind.Site d) site.cells (rw first at reads.cells) in
    let old : OldSite = record { number = subject.0; cells = cells.0 } in (
      old,
      record { number = subject.1; cells = cells.1 },
      ap (λ name. let r : SiteState = record { name = name; cells = site.cells } in r)
          (sym subject.2)
          ∙ ap (λ es. let r : SiteState = record { name = padded_name subject.0; cells = es } in r)
          cells.2,
    )

-- a delta is read as the migrated delta that its document has
pub delta_migrated : (d : Data) (delta : DeltaState) → version_of d ≡ One → IsDeltaDocument d delta
    → (old : OldDelta) × IsOldDeltaDocument d old × (delta ≡ migrated_delta old)
delta_migrated d delta first reads =
    let subject = subject_number kind.Delta d delta.addressee first reads.addressee in
    let cells = entries_migrated (rows_in kind.Delta d) delta.cells (rw first at reads.cells) in
    let old : OldDelta = record { addressee = subject.0; cells = cells.0 } in (
      old,
      record { addressee = subject.1; cells = cells.1 },
      ap (λ name. let r : DeltaState = record { addressee = name; cells = delta.cells } in r)
          (sym subject.2)
          ∙ ap (λ es. let r : DeltaState =
          record { addressee = padded_name subject.0; cells = es } in r) cells.2,
    )

-- a summary is read as the migrated summary that its document has
pub summary_migrated : (d : Data) (summary : SummaryState) → version_of d ≡ One
    → IsSummaryDocument d summary
    → (old : OldSummary) × IsOldSummaryDocument d old × (summary ≡ migrated_summary old)
summary_migrated d summary first reads =
    let subject = subject_number kind.Summary d summary.owner first reads.owner in
    let stamps =
    stamps_migrated (rows_in kind.Summary d) summary.stamps (rw first at reads.stamps) in
    let old : OldSummary = record { owner = subject.0; stamps = stamps.0 } in (
      old,
      record { owner = subject.1; stamps = stamps.1 },
      ap (λ name. let r : SummaryState = record { owner = name; stamps = summary.stamps } in r)
          (sym subject.2)
          ∙ ap (λ es. let r : SummaryState =
          record { owner = padded_name subject.0; stamps = es } in r) stamps.2,
    )
