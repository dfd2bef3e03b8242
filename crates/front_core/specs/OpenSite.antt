-- Open sites: how one is made, what each edit makes of it, why it is refused, and what a refusal
-- leaves (project rules).
use Rattle.std.specs.Prelude.{◌≡◌, ◌≢◌, [], ℕ, List, ◌⊎◌}
use Rattle.std.specs.Str.{IsUtf8}
use Rattle.cell_core.specs.SiteName.{IsSiteName}
use Rattle.cell_core.specs.declared.fault.CellFault.TheVariants.{SiteName}
use Rattle.cata_core.specs.Site.{SiteState}
use Rattle.catalogue.specs.CataFault.{IsRefusal}
use Rattle.catalogue.specs.Entries.{Agree, Between, Entries, joined}
use Rattle.cata_core.specs.declared.delta.Delta.{Delta}
use Rattle.catalogue.specs.declared.cata_fault.CataFault.TheVariants.{ClockSpent, NotForMe}
use Rattle.json_docs.specs.FaultChecks.{OrMemory}
use Rattle.row_docs.specs.Reading.{no_memory, IsOfDocument}
use Rattle.map_docs.specs.MapsLabels.{AreLangMaps, RefusesLangMaps}
use Rattle.map_docs.specs.Maps.{Labelled}
use Rattle.site_docs.specs.Checks.{IsOwnMissing, LacksNoOwn, ReadsInTime, RefusesDeltaUntil}
use Rattle.site_docs.specs.RowsInTime.{AreInTime, IsTimeAhead}
use Rattle.site_docs.specs.declared.checks.Checks.{Checks}
use Rattle.site_docs.specs.declared.checks.OwnEdits.{OwnEdits}
use Rattle.docs_core.specs.ImportingLabels.{Imports, SpendsImport}
use Rattle.docs_core.specs.Updating.{SpendsUpdate, Updates}
use Rattle.front_core.specs.Change.{HasKey, HasLabel, IsChanged, IsDelete, IsPut, RefusesChange}
use Rattle.front_core.specs.Change.{RefusesKey, RefusesPut}
use Rattle.front_core.specs.Fault.{IsOf, document_fault, site_fault}
use Rattle.front_core.specs.Preferences.{Text}
use Rattle.front_core.specs.declared.fault.FrontFault.{FrontFault}
use Rattle.front_core.specs.declared.fault.FrontFault.TheVariants.{Cell, NoMemory}
use Rattle.front_core.specs.declared.change.Change.{Change}

-- the empty site of this name
abbrev pub IsNewSite : List ℕ → SiteState → Type 0
IsNewSite name site = IsUtf8 name × IsSiteName name × (site ≡ record { name = name; cells = [] })

-- the bytes are no name of a site
abbrev pub RefusesNewSite : List ℕ → FrontFault → Type 0
RefusesNewSite name fault = (¬ (IsUtf8 name × IsSiteName name)) × (fault ≡ Cell SiteName)

-- it is refused so, or memory ended
abbrev pub OrNoMemory : (FrontFault → Type 0) → FrontFault → Type 0
OrNoMemory Refuses fault = Refuses fault ⊎ (fault ≡ NoMemory)

-- what an edit makes of a site
abbrev pub Edits : Type 1
Edits = SiteState → SiteState → Type 0

-- the message has this one text in the language, with the next stamp
abbrev pub IsPutInto : ℕ → Text → Text → Text → Edits
IsPutInto now id lang text old new = (change : Change) × IsPut id lang text change
    × IsChanged now change old new

-- what it is given is refused first, and then the edit
abbrev pub RefusesPutInto : ℕ → Text → Text → Text → SiteState → FrontFault → Type 0
RefusesPutInto now id lang text site fault = RefusesPut id lang text fault
    ⊎ (HasKey id lang × HasLabel text × RefusesChange site now fault)

-- the message has no label in the language, with the next stamp
abbrev pub IsDeleted : ℕ → Text → Text → Edits
IsDeleted now id lang old new = (change : Change) × IsDelete id lang change
    × IsChanged now change old new

-- the key is refused first, and then the edit
abbrev pub RefusesDelete : ℕ → Text → Text → SiteState → FrontFault → Type 0
RefusesDelete now id lang site fault = RefusesKey id lang fault
    ⊎ (HasKey id lang × RefusesChange site now fault)

-- ---- joins

-- the site agrees with the cells, and at each key has its old cell, or none as before, or that of
-- the join with them
pub record IsPartlyJoined (cells : Entries) (old new : SiteState) : Type 0 where
  pub agree : Agree old.cells cells
  pub name : new.name ≡ old.name
  pub between : Between old.cells new.cells cells

-- the site has its cells joined with these, which agree with them
abbrev pub IsJoined : Entries → Edits
IsJoined cells old new = Agree old.cells cells
    × (new ≡ record { name = old.name; cells = joined old.cells cells })

-- the least key whose stamp has two labels is refused
abbrev pub RefusesJoin : Entries → SiteState → FrontFault → Type 0
RefusesJoin cells site = IsOf site_fault (IsRefusal site.cells cells)

-- ---- joins after the test for own edits

-- the site lacks none of its own edits among the cells, if that is tested, and is joined with them
abbrev pub IsJoinedOwn : OwnEdits → Entries → Edits
IsJoinedOwn own cells old new = LacksNoOwn own old cells × IsJoined cells old new

-- the first of its own edits that it lacks is refused, and then as a join is
abbrev pub RefusesJoinOwn : OwnEdits → Entries → SiteState → FrontFault → Type 0
RefusesJoinOwn own cells site fault =
    IsOf document_fault (IsOwnMissing 1 own site cells) fault
    ⊎ (LacksNoOwn own site cells × RefusesJoin cells site fault)

-- the site lacks none of its own edits among the cells, if that is tested, and is partly joined
abbrev pub IsPartlyJoinedOwn : OwnEdits → Entries → Edits
IsPartlyJoinedOwn own cells old new = LacksNoOwn own old cells × IsPartlyJoined cells old new

-- ---- merges

-- the other site's cells pass the checks, and the site is joined with them
abbrev pub IsMerged : SiteState → Checks → Edits
IsMerged other checks old new =
    AreInTime checks.not_after other.cells × IsJoinedOwn checks.own_edits other.cells old new

-- the first of the times that is after the limit is refused, then as the cells are
abbrev pub RefusesMerge : SiteState → Checks → SiteState → FrontFault → Type 0
RefusesMerge other checks site fault =
    IsOf document_fault (IsTimeAhead 1 checks.not_after other.cells) fault
    ⊎ (AreInTime checks.not_after other.cells
    × RefusesJoinOwn checks.own_edits other.cells site fault)

-- the site is as it was, or partly joined if the times are in the limit
abbrev pub LeavesMerge : SiteState → Checks → Edits
LeavesMerge other checks old new =
    (new ≡ old) ⊎ (AreInTime checks.not_after other.cells
    × IsPartlyJoinedOwn checks.own_edits other.cells old new)

-- ---- deltas

-- the delta is for the site, which is joined with its cells
abbrev pub IsTakenDelta : OwnEdits → Delta → Edits
IsTakenDelta own delta old new =
    (old.name ≡ delta.addressee) × IsJoinedOwn own delta.cells old new

-- a delta for another site is refused, then as the cells are
abbrev pub RefusesTakeDelta : OwnEdits → Delta → SiteState → FrontFault → Type 0
RefusesTakeDelta own delta site fault =
    ((site.name ≢ delta.addressee) × (fault ≡ site_fault (NotForMe delta.addressee)))
    ⊎ ((site.name ≡ delta.addressee) × RefusesJoinOwn own delta.cells site fault)

-- the bytes are a delta whose times are in the limit, and it is taken
abbrev pub IsTaken : Text → Checks → Edits
IsTaken bytes checks old new =
    (delta : Delta) × ReadsInTime checks.not_after bytes delta
    × IsTakenDelta checks.own_edits delta old new

-- the bytes are refused, or a time of them; then the site refuses the delta
abbrev pub RefusesTake : Text → Checks → SiteState → FrontFault → Type 0
RefusesTake bytes checks site fault =
    IsOf document_fault (OrMemory no_memory (RefusesDeltaUntil 1 checks.not_after bytes)) fault
    ⊎ ((delta : Delta) × ReadsInTime checks.not_after bytes delta
    × RefusesTakeDelta checks.own_edits delta site fault)

-- the site is as it was, or partly joined if the bytes are a delta for it whose times are in the
-- limit
abbrev pub LeavesTake : Text → Checks → Edits
LeavesTake bytes checks old new =
    (new ≡ old)
    ⊎ ((delta : Delta) × ReadsInTime checks.not_after bytes delta × (old.name ≡ delta.addressee)
    × IsPartlyJoinedOwn checks.own_edits delta.cells old new)

-- the bytes, which are the document of this number, are no language maps
abbrev pub RefusesMaps : ℕ → Text → FrontFault → Type 0
RefusesMaps document maps =
    IsOf document_fault (OrMemory no_memory (IsOfDocument document (RefusesLangMaps maps)))

-- the site with each label of the language maps put at this time, in ascending order of key
abbrev pub IsImported : ℕ → Text → SiteState → SiteState → Type 0
IsImported now maps old new =
    (labels : List Labelled) × AreLangMaps maps labels × (new.name ≡ old.name)
    × Imports now old.name labels old.cells new.cells

-- the language maps are refused, then a label for which there is no next stamp; or memory ended
abbrev pub RefusesImport : ℕ → Text → SiteState → FrontFault → Type 0
RefusesImport now maps site fault =
    RefusesMaps 1 maps fault
    ⊎ ((labels : List Labelled) × AreLangMaps maps labels
    × ((fault ≡ NoMemory)
    ⊎ (SpendsImport now site.name labels site.cells × (fault ≡ site_fault ClockSpent))))

-- the site with the changes from the old language maps to the new ones, at this time
abbrev pub AreUpdated : ℕ → Text → Text → SiteState → SiteState → Type 0
AreUpdated now old new site updated =
    (before after : List Labelled) × AreLangMaps old before × AreLangMaps new after
    × (updated.name ≡ site.name)
    × Updates now site.name before after site.cells updated.cells

-- the old language maps are refused, then the new ones, then a change for which there is no next
-- stamp; or memory ended
abbrev pub RefusesUpdates : ℕ → Text → Text → SiteState → FrontFault → Type 0
RefusesUpdates now old new site fault =
    RefusesMaps 1 old fault
    ⊎ ((before : List Labelled) × AreLangMaps old before × RefusesMaps 2 new fault)
    ⊎ ((before after : List Labelled) × AreLangMaps old before × AreLangMaps new after
    × ((fault ≡ NoMemory)
    ⊎ (SpendsUpdate now site.name before after site.cells × (fault ≡ site_fault ClockSpent))))
