use Rattle.std.proofs.Common.{◌≡◌, ◌++◌}
use Rattle.catalogue.specs.Cells.{cells_left}
use Rattle.cata_core.proofs.answer.Edits.of.Given as goal

abbrev pub invariant-loop-id : goal.invariant-loop-id
invariant-loop-id l = l.edits.items ++ cells_left l.id-iterator ≡ l.catalogue
