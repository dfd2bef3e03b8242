use Rattle.cell_core.specs.Iter.{entries_left}
use Rattle.catalogue.proofs.PlacesNestedLemmas.{IsInFront}
use Rattle.catalogue.proofs.places.place.Given as goal

abbrev pub invariant-loop-key : goal.invariant-loop-key
invariant-loop-key l = IsInFront l.map (entries_left l.key-iterator) (l.id, l.lang) l.total
