use Rattle.std.proofs.Common.{◌≡◌, length}
use Rattle.cell_core.specs.Iter.{entries_left}
use Rattle.catalogue.specs.Cells.{cells_left}
use Rattle.catalogue.proofs.cells.CellsIterator.next.Given as goal

abbrev pub invariant-loop-self : goal.invariant-loop-self
invariant-loop-self l = cells_left l.self ≡ cells_left l.initial.self

abbrev pub decreases-loop-self : goal.decreases-loop-self
decreases-loop-self l = length (entries_left l.self.messages)
