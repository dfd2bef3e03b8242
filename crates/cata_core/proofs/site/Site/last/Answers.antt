use Rattle.std.proofs.Common.{◌∙◌, ap}
use Rattle.catalogue.specs.CatalogueLatest.{latest_of}
use Rattle.cata_core.specs.Site.{SiteState}
use Rattle.catalogue.proofs.CatalogueLatestLemmas.{latest_is}
use Rattle.cata_core.proofs.site.Site.last.Goals as goal

pub returns-clause-latest : goal.returns-clause-latest
returns-clause-latest c =
    latest_is c.args.self.now.cells c.of.result
    (c.of.ensures ∙ ap (λ (s : SiteState). latest_of s.cells) c.self.view_is)
