use Rattle.std.proofs.Common.{◌∙◌, ap}
use Rattle.catalogue.specs.inner.CatalogueFlat.{inner_of}
use Rattle.catalogue.specs.Live.{live_of, live}
use Rattle.catalogue.proofs.LabelsLemmas.{live-flat}
use Rattle.catalogue.proofs.catalogue.Catalogue.labels.Goals as goal

pub returns : goal.returns
returns c =
    c.new.ensures.labels ∙ ap (λ o. live_of (inner_of o)) c.get.ensures.value
    ∙ live-flat c.args.id.now c.map.result.now c.map.ensures.nested.outer
    ∙ ap (λ es. live es c.args.id.now) c.map.ensures.flat
