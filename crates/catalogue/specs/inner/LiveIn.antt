-- The live labels that are in a set of them.
use Rattle.std.specs.Option.{option_copied}
use Rattle.nego_core.specs.Offer.{items_of}
use Rattle.catalogue.specs.declared.live.Live.{Live}
use Rattle.catalogue.specs.inner.CatalogueFlat.{inner_of}
use Rattle.catalogue.specs.Live.{Labelled, live_of}
use Rattle.catalogue.specs.EntriesOffered.{offered_labels}

-- the live labels of these cells that are offered; none where the message has no cells
abbrev pub live_in : Live → Labelled
live_in l = offered_labels (items_of l.offer) (live_of (inner_of (option_copied l.cells)))
