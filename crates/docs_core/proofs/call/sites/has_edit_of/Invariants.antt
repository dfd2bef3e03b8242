use Rattle.catalogue.specs.Cells.{cells_left}
use Rattle.docs_core.proofs.SitesChecksLemmas.{IsForeign}
use Rattle.docs_core.proofs.call.sites.has_edit_of.Given as goal

-- no stamp of the cells so far names the site
abbrev pub invariant-loop-cell : goal.invariant-loop-cell
invariant-loop-cell l = IsForeign l.name l.cells (cells_left l.cell-iterator)
