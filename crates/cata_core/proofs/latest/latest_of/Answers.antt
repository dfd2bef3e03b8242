use Rattle.std.proofs.Common.{◌≡◌, subst}
use Rattle.cell_core.specs.Cell.{joined_stamps}
use Rattle.cell_core.specs.Keyed.{joined_if_both}
use Rattle.catalogue.specs.Cells.{cells_left}
use Rattle.catalogue.specs.Entries.{Entries}
use Rattle.catalogue.specs.CatalogueLatest.{latest_of}
use Rattle.catalogue.proofs.CatalogueLatestLemmas.{latest_next}
use Rattle.cata_core.proofs.latest.latest_of.Goals as goal

pub loop-cell-preserved : goal.loop-cell-preserved
loop-cell-preserved c =
    latest_next c.loop-cell.latest c.latest_with.result c.stamp.result
    (c.in-Some.field-0-0.now, c.in-Some.field-0-1.now) c.in-Some.cell.now
    (cells_left c.next.new.self) (latest_of c.args.catalogue.now) c.latest_with.ensures
    c.stamp.ensures
    (subst
    (λ (left : Entries). joined_if_both joined_stamps c.loop-cell.latest (latest_of left)
    ≡ latest_of c.args.catalogue.now) c.in-Some.ensures.steps c.loop-cell.invariant)
