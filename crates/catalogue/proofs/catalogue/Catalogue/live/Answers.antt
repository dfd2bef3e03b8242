use Rattle.std.proofs.Common.{◌∙◌, ap, sym}
use Rattle.nego_core.specs.Offer.{items_of}
use Rattle.catalogue.specs.inner.CatalogueFlat.{inner_of}
use Rattle.catalogue.specs.Live.{live_of, live}
use Rattle.catalogue.specs.EntriesOffered.{offered_labels}
use Rattle.catalogue.proofs.LabelsLemmas.{live-flat}
use Rattle.catalogue.proofs.EntriesOfferedLemmas.{live_offered}
use Rattle.catalogue.proofs.catalogue.Catalogue.live.Goals as goal

pub returns : goal.returns
returns c =
    let offer = items_of c.args.offer in
    c.new.ensures ∙ (ap (offered_labels offer)
    (ap (λ o. live_of (inner_of o)) c.get.ensures.value
    ∙ live-flat c.args.id.now c.map.result.now c.map.ensures.nested.outer
    ∙ ap (λ es. live es c.args.id.now) c.map.ensures.flat)
    ∙ sym (live_offered offer c.args.self.now c.args.id.now))
