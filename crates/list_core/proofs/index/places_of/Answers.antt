use Rattle.list_core.specs.Index.{IsRangeIndex}
use Rattle.list_core.proofs.Basics.{if_ok}
use Rattle.list_core.proofs.IndexLemmas.{index_made}
use Rattle.list_core.proofs.index.places_of.Goals as goal

pub returns : goal.returns
returns c =
    if_ok _ (λ places. IsRangeIndex c.args.items.now places.items) c.places_by_key.result
    (λ places p. index_made c.args.items.now _ _ places.items c.in_ok-keys.ensures
    c.sort_range_keys.ensures.same c.sort_range_keys.ensures.ascending
    (rw c.deref.ensures.value at p)) c.places_by_key.ensures
