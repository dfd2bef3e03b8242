use Rattle.std.proofs.Common.{◌≡◌, ◌++◌}
use Rattle.nego_core.specs.Offer.{items_of}
use Rattle.catalogue.specs.Labels.{labels_left}
use Rattle.catalogue.specs.inner.EntriesBorrowed.{labelled_of}
use Rattle.catalogue.specs.EntriesOffered.{offered_labels}
use Rattle.catalogue.proofs.asking.listed.Given as goal

abbrev pub invariant-loop-lang : goal.invariant-loop-lang
invariant-loop-lang l =
    labelled_of l.listed.items ++ offered_labels (items_of l.offer) (labels_left l.lang-iterator)
    ≡ offered_labels (items_of l.offer) (labels_left l.fn.labels)
