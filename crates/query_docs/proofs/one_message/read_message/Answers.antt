use Rattle.std.proofs.Common.{◌∙◌, ap}
use Rattle.catalogue.specs.Live.{live}
use Rattle.cata_core.specs.Site.{SiteState}
use Rattle.query_docs.proofs.OneMessageLemmas.{kept_live}
use Rattle.query_docs.proofs.one_message.read_message.Goals as goal

-- the cells that were kept are those of the message in the site that was shown
pub returns : goal.returns
returns c =
    let shown = c.in_ok-name.ensures in (
      record { name = c.in_ok-name.name; cells = shown.0 },
      shown.1,
      ap (λ (s : SiteState). s.name) c.from_catalogue.ensures,
      ap (λ (s : SiteState). live s.cells c.args.id.now) c.from_catalogue.ensures
          ∙ kept_live _ c.in_ok-name.message shown.0 shown.3,
    )
