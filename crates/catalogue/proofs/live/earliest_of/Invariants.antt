use Rattle.nego_core.specs.Offer.{items_of}
use Rattle.catalogue.specs.Labels.{labels_left}
use Rattle.catalogue.proofs.LiveLanguagesLemmas.{IsEarliestBefore}
use Rattle.catalogue.proofs.live.earliest_of.Given as goal

abbrev pub invariant-loop-lang : goal.invariant-loop-lang
invariant-loop-lang l =
    IsEarliestBefore l.ranges.scheme l.ranges.list.now (items_of l.offer) (labels_left l.fn.labels)
    (labels_left l.lang-iterator) l.earliest
