-- What an import answers, and which refusals (JSON-LD 1.1, section 9.8; project rules).
use Rattle.std.specs.Prelude.{◌≡◌, ◌⊎◌, ℕ, List}
use Rattle.catalogue.specs.Entries.{Entries}
use Rattle.cata_core.specs.Site.{SiteState}
use Rattle.catalogue.specs.declared.cata_fault.CataFault.TheVariants.{ClockSpent}
use Rattle.json_docs.specs.Faults.{of_no_document, of_site}
use Rattle.json_docs.specs.declared.fault.DocFault.{DocFault}
use Rattle.row_docs.specs.Reading.{IsOfDocument}
use Rattle.site_docs.specs.Reading.{IsSiteText, ReadsAsSite, RefusesSite}
use Rattle.map_docs.specs.MapsLabels.{AreLangMaps, RefusesLangMaps}
use Rattle.map_docs.specs.Maps.{Labelled}
use Rattle.docs_core.specs.ImportingLabels.{Imports, SpendsImport}

-- the site with each label of the language maps put at this time, in ascending order of key
abbrev pub IsImported : List ℕ → ℕ → List ℕ → List ℕ → Type 0
IsImported bytes now maps doc =
    (site : SiteState) × (labels : List Labelled) × (cells : Entries) × ReadsAsSite bytes site
    × AreLangMaps maps labels
    × Imports now site.name labels site.cells cells
    × IsSiteText (record { name = site.name; cells = cells }) doc

-- the site is refused, then the language maps, then a label for which there is no next stamp
abbrev pub RefusesImport : List ℕ → ℕ → List ℕ → DocFault → Type 0
RefusesImport bytes now maps fault =
    IsOfDocument 1 (RefusesSite bytes) fault
    ⊎ ((site : SiteState) × ReadsAsSite bytes site × IsOfDocument 2 (RefusesLangMaps maps) fault)
    ⊎ ((site : SiteState) × (labels : List Labelled) × ReadsAsSite bytes site
    × AreLangMaps maps labels
    × SpendsImport now site.name labels site.cells × (fault ≡ of_no_document (of_site ClockSpent)))
