-- A site that is read for one message.
use Rattle.std.specs.Prelude.{◌≡◌, ℕ, List}
use Rattle.catalogue.specs.Live.{live}
use Rattle.cata_core.specs.Site.{SiteState}
use Rattle.site_docs.specs.Reading.{ReadsAsSite}

-- the site has the name and the live labels of this message that the document says
abbrev pub IsReadFor : List ℕ → List ℕ → SiteState → Type 0
IsReadFor bytes id part =
    (site : SiteState) × ReadsAsSite bytes site × (part.name ≡ site.name)
    × (live part.cells id ≡ live site.cells id)
