-- A site's document that is being written.
use Rattle.std.specs.Prelude.{All}
use Rattle.catalogue.specs.Entries.{Entries}
use Rattle.row_docs.specs.Entries.{cells_values}
use Rattle.row_docs.specs.EntriesValid.{IsKeptCell}
use Rattle.site_docs.specs.Envelope.{cells_opening}
use Rattle.site_docs.specs.OpenRows.{HoldsOpen}
use Rattle.site_docs.specs.declared.rows_draft.RowsDraft.{RowsDraft}

-- the draft is the text of a site's document as far as the rows of these cells
pub record HoldsRows (draft : RowsDraft) (cells : Entries) : Type 0 where
  pub rows : HoldsOpen cells_opening draft.rows (cells_values cells)
  pub each : All IsKeptCell cells
