-- Documents of sites asked where they lie (project rules).
use Rattle.std.specs.Prelude.{◌≡◌, ℕ, List}
use Rattle.catalogue.specs.Live.{live}
use Rattle.cata_core.specs.Site.{SiteState}

-- the part has the live labels of the message that the site has
abbrev pub HasLabelsOf : List ℕ → SiteState → SiteState → Type 0
HasLabelsOf id site part = live part.cells id ≡ live site.cells id
