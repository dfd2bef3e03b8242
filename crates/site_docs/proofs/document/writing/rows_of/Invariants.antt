use Rattle.std.proofs.Common.{◌≡◌, ◌++◌}
use Rattle.catalogue.specs.Cells.{cells_left}
use Rattle.catalogue.specs.Entries.{Entries}
use Rattle.site_docs.specs.RowsDraft.{HoldsRows}
use Rattle.site_docs.proofs.document.writing.rows_of.Given as goal

-- the rows of the cells that were written, and those that are left
abbrev pub invariant-loop-id : goal.invariant-loop-id
invariant-loop-id l = (done : Entries) × HoldsRows l.draft done
    × (done ++ cells_left l.id-iterator ≡ l.fn.cells)
