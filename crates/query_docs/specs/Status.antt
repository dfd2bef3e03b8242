-- The line of a site's status. Project rule.
use Rattle.std.specs.Prelude.{◌≡◌, ◌∷◌, ◌++◌, ℕ, Bool, List, None, Option, Some, codes, count_by}
use Rattle.std.specs.Prelude.{decimal, is_some, length}
use Rattle.cell_core.specs.declared.stamp.Stamp.{Stamp}
use Rattle.catalogue.specs.Entries.{Entry}
use Rattle.catalogue.specs.CatalogueLatest.{latest_of}
use Rattle.cata_core.specs.Site.{SiteState}
use Rattle.site_docs.specs.Reading.{ReadsAsSite}
use Rattle.query_docs.specs.Lines.{line}

-- `TIME NAME COUNT`, or `none`
abbrev pub last_text : Option Stamp → List ℕ
last_text None = codes "none"
last_text (Some stamp) = decimal stamp.time ++ 32 ∷ (stamp.site ++ 32 ∷ decimal stamp.count)

-- whether the cell has a label
abbrev pub is_labelled : Entry → Bool
is_labelled entry = is_some entry.1.label

-- `site NAME cells N labels N last ..`
abbrev pub counted_line : List ℕ → ℕ → ℕ → Option Stamp → List ℕ
counted_line name cells labels last =
    line (codes "site "
    ++ (name
    ++ (codes " cells "
    ++ (decimal cells
    ++ (codes " labels " ++ (decimal labels ++ (codes " last " ++ last_text last)))))))

-- the same of a site; labels are the cells that have one
abbrev pub status_line : SiteState → List ℕ
status_line site = counted_line site.name (length site.cells) (count_by is_labelled site.cells)
    (latest_of site.cells)

-- the line of the site that the bytes are a document of
abbrev pub IsStatus : List ℕ → List ℕ → Type 0
IsStatus bytes text = (site : SiteState) × ReadsAsSite bytes site × (text ≡ status_line site)
