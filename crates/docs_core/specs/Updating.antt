-- What an editor changed in language maps, and the site after it. Project rule.
use Rattle.std.specs.Prelude.{◌≡◌, ◌≢◌, ◌⊎◌, ℕ, List, Option, None, Some}
use Rattle.std.specs.FinMap.Entries.{find}
use Rattle.cell_core.specs.Keyed.{IsMap}
use Rattle.cell_core.specs.Entry.{EntryKey, key_cmp}
use Rattle.catalogue.specs.Entries.{Entries}
use Rattle.cata_core.specs.Site.{SiteState}
use Rattle.catalogue.specs.declared.cata_fault.CataFault.TheVariants.{ClockSpent}
use Rattle.json_docs.specs.Faults.{of_no_document, of_site}
use Rattle.json_docs.specs.declared.fault.DocFault.{DocFault}
use Rattle.row_docs.specs.Reading.{IsOfDocument}
use Rattle.site_docs.specs.Reading.{IsSiteText, ReadsAsSite, RefusesSite}
use Rattle.map_docs.specs.MapsLabels.{AreLangMaps, RefusesLangMaps}
use Rattle.map_docs.specs.Maps.{Labelled}
use Rattle.query_docs.specs.Exporting.{label_at}
use Rattle.docs_core.specs.UpdatingChanges.{Change, Makes, SpendsClock}

-- the texts of a label, or none where there is no label
abbrev pub Texts : Type 0
Texts = Option (List (List ℕ))

-- what is done at a key whose label is `held` on the site: nothing where the editor left it as it
-- was, or where the site has the new one already; else it gets the new one, and is deleted where
-- that is none
abbrev pub IsChangeAt : Texts → Texts → Texts → Option Texts → Type 0
IsChangeAt old new held change =
    (((old ≡ new) ⊎ (held ≡ new)) × (change ≡ None))
    ⊎ ((old ≢ new) × (held ≢ new) × (change ≡ Some new))

-- the changes from the old labels to the new ones, in ascending order of key
pub record AreChanges (old new : List Labelled) (cells : Entries)
    (changes : List Change) : Type 0 where
  pub ascending : IsMap key_cmp changes
  pub at : (key : EntryKey)
      → IsChangeAt (find key_cmp key old) (find key_cmp key new) (label_at key cells)
      (find key_cmp key changes)

-- the cells after each change was made
abbrev pub Updates : ℕ → List ℕ → List Labelled → List Labelled → Entries → Entries → Type 0
Updates now name old new cells updated =
    (changes : List Change) × AreChanges old new cells changes
    × Makes now name changes cells updated

-- for one of the changes there is no next stamp
abbrev pub SpendsUpdate : ℕ → List ℕ → List Labelled → List Labelled → Entries → Type 0
SpendsUpdate now name old new cells =
    (changes : List Change) × AreChanges old new cells changes × SpendsClock now name changes cells

-- the site with the changes from the old language maps to the new ones, which reads as that site
abbrev pub IsUpdated : List ℕ → ℕ → List ℕ → List ℕ → List ℕ → Type 0
IsUpdated bytes now old new doc =
    (site : SiteState) × (before after : List Labelled) × (cells : Entries) × ReadsAsSite bytes site
    × AreLangMaps old before × AreLangMaps new after
    × Updates now site.name before after site.cells cells
    × IsSiteText (record { name = site.name; cells = cells }) doc

-- the site is refused, then the old language maps, then the new ones, then a change for which there
-- is no next stamp
abbrev pub RefusesUpdate : List ℕ → ℕ → List ℕ → List ℕ → DocFault → Type 0
RefusesUpdate bytes now old new fault =
    IsOfDocument 1 (RefusesSite bytes) fault
    ⊎ ((site : SiteState) × ReadsAsSite bytes site × IsOfDocument 2 (RefusesLangMaps old) fault)
    ⊎ ((site : SiteState) × (before : List Labelled) × ReadsAsSite bytes site
    × AreLangMaps old before × IsOfDocument 3 (RefusesLangMaps new) fault)
    ⊎ ((site : SiteState) × (before after : List Labelled) × ReadsAsSite bytes site
    × AreLangMaps old before × AreLangMaps new after
    × SpendsUpdate now site.name before after site.cells
    × (fault ≡ of_no_document (of_site ClockSpent)))
