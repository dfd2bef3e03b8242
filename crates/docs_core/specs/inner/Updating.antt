-- A site's document with changes, once the language maps are read.
use Rattle.std.specs.Prelude.{◌≡◌, ◌⊎◌, ℕ, List}
use Rattle.catalogue.specs.Entries.{Entries}
use Rattle.cata_core.specs.Site.{SiteState}
use Rattle.catalogue.specs.declared.cata_fault.CataFault.TheVariants.{ClockSpent}
use Rattle.json_docs.specs.Faults.{of_no_document, of_site}
use Rattle.json_docs.specs.declared.fault.DocFault.{DocFault}
use Rattle.row_docs.specs.Reading.{IsOfDocument}
use Rattle.site_docs.specs.Reading.{IsSiteText, ReadsAsSite, RefusesSite}
use Rattle.map_docs.specs.MapsLabels.{AreLangMaps, RefusesLangMaps}
use Rattle.map_docs.specs.Maps.{Labelled}
use Rattle.docs_core.specs.Updating.{Updates, SpendsUpdate}

-- the site of the document with the changes from these labels to those, which reads as that site
abbrev pub IsWithUpdates : List ℕ → ℕ → List Labelled → List Labelled → List ℕ → Type 0
IsWithUpdates bytes now before after doc =
    (site : SiteState) × (cells : Entries) × ReadsAsSite bytes site
    × Updates now site.name before after site.cells cells
    × IsSiteText (record { name = site.name; cells = cells }) doc

-- the site is refused, then a change for which there is no next stamp
abbrev pub RefusesUpdates : List ℕ → ℕ → List Labelled → List Labelled → DocFault → Type 0
RefusesUpdates bytes now before after fault =
    IsOfDocument 1 (RefusesSite bytes) fault
    ⊎ ((site : SiteState) × ReadsAsSite bytes site
    × SpendsUpdate now site.name before after site.cells
    × (fault ≡ of_no_document (of_site ClockSpent)))

-- the old language maps are refused as document 2, then the new ones as document 3
abbrev pub RefusesMaps : List ℕ → List ℕ → DocFault → Type 0
RefusesMaps old new fault =
    IsOfDocument 2 (RefusesLangMaps old) fault
    ⊎ ((before : List Labelled) × AreLangMaps old before
    × IsOfDocument 3 (RefusesLangMaps new) fault)
