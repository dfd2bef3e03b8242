use Rattle.std.proofs.Common.{◌≡◌}
use Rattle.cell_core.specs.Cell.{joined_stamps}
use Rattle.cell_core.specs.Keyed.{joined_if_both}
use Rattle.catalogue.specs.Cells.{cells_left}
use Rattle.catalogue.specs.CatalogueLatest.{latest_of}
use Rattle.cata_core.proofs.latest.latest_of.Given as goal

abbrev pub invariant-loop-cell : goal.invariant-loop-cell
invariant-loop-cell l =
    joined_if_both joined_stamps l.latest (latest_of (cells_left l.cell-iterator))
    ≡ latest_of l.catalogue
