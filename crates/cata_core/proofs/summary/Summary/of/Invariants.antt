use Rattle.std.proofs.Common.{◌≡◌, ◌++◌}
use Rattle.catalogue.specs.Cells.{cells_left}
use Rattle.cata_core.specs.Delta.{summary_of}
use Rattle.cata_core.proofs.summary.Summary.of.Given as goal

abbrev pub invariant-loop-id : goal.invariant-loop-id
invariant-loop-id l =
    l.entries.items ++ summary_of (cells_left l.id-iterator) ≡ summary_of l.catalogue
