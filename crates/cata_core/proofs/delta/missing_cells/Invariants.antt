use Rattle.catalogue.specs.Cells.{cells_left}
use Rattle.cata_core.proofs.DeltaMissingLemmas.{AreMissingSoFar}
use Rattle.cata_core.proofs.delta.missing_cells.Given as goal

abbrev pub invariant-loop-id : goal.invariant-loop-id
invariant-loop-id l =
    AreMissingSoFar l.catalogue (cells_left l.id-iterator) l.missing l.summary.stamps l.rest
