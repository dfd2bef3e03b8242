use Rattle.std.proofs.Common.{◌≡◌, ◌++◌}
use Rattle.catalogue.specs.Cells.{cells_left}
use Rattle.catalogue.specs.Entries.{Entries}
use Rattle.site_docs.proofs.showing.show_catalogue.Given as goal

-- the cells that were shown, and those that are left
abbrev pub invariant-loop-id : goal.invariant-loop-id
invariant-loop-id g l = (done : Entries) × g.S.CellSink.Holds l.fn.start l.sink done
    × (done ++ cells_left l.id-iterator ≡ l.fn.cells)
