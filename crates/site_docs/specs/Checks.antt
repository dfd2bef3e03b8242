-- What an exchange tests of the cells that come in: their times, and that the site which takes them
-- lacks none of its own edits. Project rule.
use Rattle.std.specs.Prelude.{◌≡◌, ◌⊎◌, ⊤, ℕ, List, None, Option}
use Rattle.catalogue.specs.Entries.{Entries}
use Rattle.cata_core.specs.OwnEdits.{IsFirstLacked, LacksNoEdit}
use Rattle.cata_core.specs.Site.{SiteState}
use Rattle.cata_core.specs.declared.delta.Delta.{Delta}
use Rattle.json_docs.specs.declared.fault.DocCause.TheVariants.{OwnEditMissing}
use Rattle.json_docs.specs.declared.fault.DocFault.{DocFault}
use Rattle.row_docs.specs.Reading.{IsOfDocument}
use Rattle.site_docs.specs.Reading.{ReadsAsDelta, RefusesDelta}
use Rattle.site_docs.specs.RowsInTime.{AreInTime, IsTimeAhead}
use Rattle.site_docs.specs.declared.checks.Checks.{Checks}
use Rattle.site_docs.specs.declared.checks.OwnEdits.{OwnEdits}
use Rattle.site_docs.specs.declared.checks.OwnEdits.TheVariants.{Checked, Unchecked}

-- a limit on times is all that is tested
abbrev pub until : Option ℕ → Checks
until limit = record { not_after = limit; own_edits = Unchecked }

-- nothing is tested
abbrev pub no_checks : Checks
no_checks = until None

-- ---- times

-- the bytes read as this delta, and none of its times is after the limit
abbrev pub ReadsInTime : Option ℕ → List ℕ → Delta → Type 0
ReadsInTime limit bytes delta = ReadsAsDelta bytes delta × AreInTime limit delta.cells

-- the delta is refused by its reader, then for a time
abbrev pub RefusesDeltaUntil : ℕ → Option ℕ → List ℕ → DocFault → Type 0
RefusesDeltaUntil document limit bytes fault =
    IsOfDocument document (RefusesDelta bytes) fault
    ⊎ ((delta : Delta) × ReadsAsDelta bytes delta × IsTimeAhead document limit delta.cells fault)

-- for a time of the first site, or for one of the second where all of the first are in the limit
abbrev pub IsAheadOfBoth : Option ℕ → Entries → Entries → DocFault → Type 0
IsAheadOfBoth limit first second fault =
    IsTimeAhead 1 limit first fault ⊎ (AreInTime limit first × IsTimeAhead 2 limit second fault)

-- ---- a site's own edits

-- none of these rows is an edit of the site that it lacks, if that is tested
abbrev pub LacksNoOwn : OwnEdits → SiteState → Entries → Type 0
LacksNoOwn Unchecked site rows = ⊤
LacksNoOwn Checked site rows = LacksNoEdit site.name site.cells rows

-- the first row that is such an edit refuses this input document
abbrev pub IsOwnMissing : ℕ → OwnEdits → SiteState → Entries → DocFault → Type 0
IsOwnMissing document Unchecked site rows fault = ⊥
IsOwnMissing document Checked site rows fault =
    (row : ℕ) × IsFirstLacked site.name site.cells rows row
    × (fault ≡ record { document = document; cause = OwnEditMissing row })

-- two sites lack none of their own edits that the other has
abbrev pub LackNoOwn : OwnEdits → SiteState → SiteState → Type 0
LackNoOwn own first second =
    LacksNoOwn own second first.cells × LacksNoOwn own first second.cells

-- by a row of the first, which the second made and lacks; or by one of the second
abbrev pub IsOwnMissingOfBoth : OwnEdits → SiteState → SiteState → DocFault → Type 0
IsOwnMissingOfBoth own first second fault =
    IsOwnMissing 1 own second first.cells fault
    ⊎ (LacksNoOwn own second first.cells × IsOwnMissing 2 own first second.cells fault)
