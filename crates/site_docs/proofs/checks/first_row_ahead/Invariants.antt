use Rattle.catalogue.specs.Cells.{cells_left}
use Rattle.site_docs.proofs.ChecksLemmas.{IsSearched}
use Rattle.site_docs.proofs.checks.first_row_ahead.Given as goal

-- the cells so far are in the limit, and the row counts them
abbrev pub invariant-loop-cell : goal.invariant-loop-cell
invariant-loop-cell l = IsSearched l.cells (cells_left l.cell-iterator) l.not_after l.row
