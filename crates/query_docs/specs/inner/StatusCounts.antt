-- The counts of cells that are seen one after another.
use Rattle.std.specs.Prelude.{◌≡◌, count_by, length}
use Rattle.catalogue.specs.Entries.{Entries}
use Rattle.catalogue.specs.CatalogueLatest.{latest_of}
use Rattle.query_docs.specs.Status.{is_labelled}
use Rattle.query_docs.specs.declared.status.Counts.{Counts}

-- the counts are those of these cells
pub record AreCounts (counts : Counts) (cells : Entries) : Type 0 where
  pub cells_are : counts.cells ≡ length cells
  pub labels_are : counts.labels ≡ count_by is_labelled cells
  pub last_is : counts.last ≡ latest_of cells
