-- What a site knows of the latest stamp of its cells (project rule).
use Rattle.std.specs.Prelude.{◌≡◌, ⊤}
use Rattle.cata_core.specs.declared.latest.Latest.{Latest}
use Rattle.cata_core.specs.declared.latest.Latest.TheVariants.{Known, Unknown}
use Rattle.catalogue.specs.Entries.{Entries}
use Rattle.catalogue.specs.CatalogueLatest.{latest_of}

-- what is known is true: the latest stamp of the cells is this one, or nothing is known
abbrev pub IsKnownLatest : Latest → Entries → Type 0
IsKnownLatest (Known latest) cells = latest ≡ latest_of cells
IsKnownLatest Unknown cells = ⊤
