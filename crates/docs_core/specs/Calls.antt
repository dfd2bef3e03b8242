-- What the calls on whole documents answer, and which refusals. Project rules.
use Rattle.std.specs.Prelude.{◌≡◌, ◌≢◌, ◌⊎◌, ℕ, List, Option}
use Rattle.std.specs.FinMap.Entries.{put}
use Rattle.cell_core.specs.Stamp.{IsNext}
use Rattle.cell_core.specs.declared.stamp.Stamp.{Stamp}
use Rattle.catalogue.specs.CataFault.{IsRefusal}
use Rattle.cell_core.specs.Entry.{EntryKey, key_cmp}
use Rattle.catalogue.specs.Entries.{Agree, joined}
use Rattle.catalogue.specs.CatalogueLatest.{latest_of}
use Rattle.cata_core.specs.Site.{RefusesEdit, SiteState}
use Rattle.catalogue.specs.declared.cata_fault.CataFault.{CataFault}
use Rattle.catalogue.specs.declared.cata_fault.CataFault.TheVariants.{NoMemory, NotForMe}
use Rattle.cata_core.specs.declared.delta.Delta.{Delta}
use Rattle.json_docs.specs.Faults.{of_no_document, of_site}
use Rattle.json_docs.specs.declared.fault.DocCause.TheVariants.{Site}
use Rattle.json_docs.specs.declared.fault.DocFault.{DocFault}
use Rattle.row_docs.specs.Reading.{IsOfDocument}
use Rattle.site_docs.specs.Reading.{IsDeltaText, IsSiteText, ReadsAsSite, RefusesSite}
use Rattle.site_docs.specs.RowsInTime.{AreInTime}
use Rattle.site_docs.specs.Checks.{IsAheadOfBoth, IsOwnMissing, IsOwnMissingOfBoth, LackNoOwn}
use Rattle.site_docs.specs.Checks.{LacksNoOwn, ReadsInTime, RefusesDeltaUntil}
use Rattle.site_docs.specs.declared.checks.Checks.{Checks}
use Rattle.site_docs.specs.declared.checks.OwnEdits.{OwnEdits}
use Rattle.summary_docs.specs.Reading.{ReadsAsShown, RefusesShown}
use Rattle.summary_docs.specs.Shown.{ShownState, delta_for}
use Rattle.summary_docs.specs.Writing.{IsSummaryBy}
use Rattle.summary_docs.specs.declared.summaries.Shows.{Shows}

-- it is the refusal of a site's call, out of memory apart
abbrev pub IsOfSite : (CataFault → Type 0) → DocFault → Type 0
IsOfSite Refuses fault =
    (cause : CataFault) × (cause ≢ NoMemory) × Refuses cause
    × (fault ≡ of_no_document (of_site cause))

-- ---- edits

-- the site with the next stamp and the label at this key, none where it is deleted
abbrev pub IsEdited : List ℕ → ℕ → EntryKey → Option (List (List ℕ)) → List ℕ → Type 0
IsEdited bytes now key label text =
    (site : SiteState) × (stamp : Stamp) × ReadsAsSite bytes site
    × IsNext (latest_of site.cells) now site.name stamp
    × IsSiteText
    (record {
      name = site.name;
      cells = put key_cmp key (record { stamp = stamp; label = label }) site.cells;
    }) text

-- the document is refused, or the edit of its site
abbrev pub RefusesEditing : List ℕ → ℕ → DocFault → Type 0
RefusesEditing bytes now fault =
    IsOfDocument 1 (RefusesSite bytes) fault
    ⊎ ((site : SiteState) × ReadsAsSite bytes site × IsOfSite (RefusesEdit site now) fault)

-- ---- two sites

-- both with the cells of both, which passed the checks
abbrev pub AreSynced : Checks → List ℕ → List ℕ → List ℕ → List ℕ → Type 0
AreSynced checks a b x y =
    (first second : SiteState) × ReadsAsSite a first × ReadsAsSite b second
    × AreInTime checks.not_after first.cells × AreInTime checks.not_after second.cells
    × LackNoOwn checks.own_edits first second × Agree first.cells second.cells
    × IsSiteText (record { name = first.name; cells = joined first.cells second.cells }) x
    × IsSiteText (record { name = second.name; cells = joined first.cells second.cells }) y

-- a row of either is an edit that the other made and lacks, or their cells do not agree
abbrev pub RefusesJoin : OwnEdits → SiteState → SiteState → DocFault → Type 0
RefusesJoin own first second fault =
    IsOwnMissingOfBoth own first second fault
    ⊎ (LackNoOwn own first second × IsOfSite (IsRefusal first.cells second.cells) fault)

-- the first document is refused, then the second, then a time, then the join of their sites
abbrev pub RefusesSync : Checks → List ℕ → List ℕ → DocFault → Type 0
RefusesSync checks a b fault =
    IsOfDocument 1 (RefusesSite a) fault
    ⊎ ((first : SiteState) × ReadsAsSite a first × IsOfDocument 2 (RefusesSite b) fault)
    ⊎ ((first second : SiteState) × ReadsAsSite a first × ReadsAsSite b second
    × IsAheadOfBoth checks.not_after first.cells second.cells fault)
    ⊎ ((first second : SiteState) × ReadsAsSite a first × ReadsAsSite b second
    × AreInTime checks.not_after first.cells × AreInTime checks.not_after second.cells
    × RefusesJoin checks.own_edits first second fault)

-- ---- summaries and deltas

-- the summary of the site that the bytes are a document of, with labels or without
abbrev pub IsSummarised : Shows → List ℕ → List ℕ → Type 0
IsSummarised shows bytes text =
    (site : SiteState) × ReadsAsSite bytes site × IsSummaryBy shows site text

-- the cells that the summary lacks, for its owner
abbrev pub IsDeltaFor : List ℕ → List ℕ → List ℕ → Type 0
IsDeltaFor a b text =
    (site : SiteState) × (shown : ShownState) × ReadsAsSite a site × ReadsAsShown b shown
    × IsDeltaText (record {
      addressee = shown.summary.owner;
      cells = delta_for site.cells shown;
    }) text

-- the site's document is refused, then the summary's
abbrev pub RefusesDeltaFor : List ℕ → List ℕ → DocFault → Type 0
RefusesDeltaFor a b fault =
    IsOfDocument 1 (RefusesSite a) fault
    ⊎ ((site : SiteState) × ReadsAsSite a site × IsOfDocument 2 (RefusesShown b) fault)

-- the site with the cells of a delta for it, which passed the checks
abbrev pub IsTaken : Checks → List ℕ → List ℕ → List ℕ → Type 0
IsTaken checks a b text =
    (site : SiteState) × (delta : Delta) × ReadsAsSite a site
    × ReadsInTime checks.not_after b delta × (site.name ≡ delta.addressee)
    × LacksNoOwn checks.own_edits site delta.cells × Agree site.cells delta.cells
    × IsSiteText (record { name = site.name; cells = joined site.cells delta.cells }) text

-- the delta is for another site; or a row of it is an edit that the site made and lacks; or the
-- cells do not agree
abbrev pub RefusesTaken : OwnEdits → SiteState → Delta → DocFault → Type 0
RefusesTaken own site delta fault =
    ((site.name ≢ delta.addressee) × (fault ≡ of_no_document (Site (NotForMe delta.addressee))))
    ⊎ ((site.name ≡ delta.addressee) × IsOwnMissing 2 own site delta.cells fault)
    ⊎ ((site.name ≡ delta.addressee) × LacksNoOwn own site delta.cells
    × IsOfSite (IsRefusal site.cells delta.cells) fault)

-- the site's document is refused, then the delta's, then a time of it, then the taking of it
abbrev pub RefusesTaking : Checks → List ℕ → List ℕ → DocFault → Type 0
RefusesTaking checks a b fault =
    IsOfDocument 1 (RefusesSite a) fault
    ⊎ ((site : SiteState) × ReadsAsSite a site
    × RefusesDeltaUntil 2 checks.not_after b fault)
    ⊎ ((site : SiteState) × (delta : Delta) × ReadsAsSite a site
    × ReadsInTime checks.not_after b delta × RefusesTaken checks.own_edits site delta fault)
