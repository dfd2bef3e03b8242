-- One more document, joined to a site.
use Rattle.std.specs.Prelude.{◌≡◌, ℕ, List}
use Rattle.catalogue.specs.Entries.{Agree, joined}
use Rattle.cata_core.specs.Site.{SiteState}
use Rattle.site_docs.specs.Reading.{ReadsAsSite}
use Rattle.site_docs.specs.Checks.{LacksNoOwn}
use Rattle.site_docs.specs.declared.checks.Checks.{Checks}
use Rattle.site_docs.specs.RowsInTime.{AreInTime}

-- the second site is the first one with the cells of this document, which pass the checks and agree
-- with its own
abbrev pub JoinsOther : Checks → List ℕ → SiteState → SiteState → Type 0
JoinsOther checks document old new =
    (other : SiteState) × ReadsAsSite document other × AreInTime checks.not_after other.cells
    × LacksNoOwn checks.own_edits old other.cells × Agree old.cells other.cells
    × (new ≡ record { name = old.name; cells = joined old.cells other.cells })
