use Rattle.std.specs.Prelude.{option_map}
use Rattle.nego_core.specs.Offer.{items_of}
use Rattle.catalogue.specs.Messages.{messages_left}
use Rattle.catalogue.specs.EntriesOffered.{offered_cells}
use Rattle.query_docs.proofs.BundlingLemmas.{AreLive, IsBundling, shown_all}
use Rattle.query_docs.proofs.bundling.write_bundle_by.Given as goal

abbrev pub invariant-loop-message : goal.invariant-loop-message
invariant-loop-message l =
    IsBundling l.fn.widening (offered_cells (items_of l.offer) l.catalogue) l.list
    (option_map (λ lang. lang.now) l.default) l.draft
    (shown_all (items_of l.offer) (messages_left l.message-iterator))
    × AreLive l.catalogue (messages_left l.message-iterator)
