use Rattle.std.proofs.Common.{subst}
use Rattle.nego_core.specs.Offer.{items_of}
use Rattle.nego_core.specs.WidenedChoice.{MatchEarliest}
use Rattle.catalogue.specs.Live.{Labelled, languages}
use Rattle.catalogue.specs.EntriesOffered.{offered_labels}
use Rattle.catalogue.proofs.live.LiveLanguages.earliest.Goals as goal

pub returns : goal.returns
returns c =
    subst (λ (x : Labelled). MatchEarliest c.args.ranges.now.scheme c.args.ranges.now.list.now
    (languages (offered_labels (items_of c.args.self.now.offer) x)) c.earliest_of.result)
    c.new.ensures.labels c.earliest_of.ensures
