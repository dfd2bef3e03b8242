use Rattle.cell_core.specs.Iter.{entries_left}
use Rattle.catalogue.proofs.PlacesNestedLemmas.{IsCounted}
use Rattle.catalogue.proofs.places.count.Given as goal

abbrev pub invariant-loop-cells : goal.invariant-loop-cells
invariant-loop-cells l = IsCounted l.map (entries_left l.cells-iterator) l.total
