-- A summary's document that is being written.
use Rattle.std.specs.Prelude.{ℕ, All, List}
use Rattle.cell_core.specs.SiteName.{IsSiteName}
use Rattle.cata_core.specs.Delta.{Stamps}
use Rattle.row_docs.specs.Entries.{stamps_values}
use Rattle.row_docs.specs.EntriesValid.{IsKeptStamp}
use Rattle.site_docs.specs.inner.Envelope.{stamps_opening}
use Rattle.site_docs.specs.OpenRows.{HoldsOpen}
use Rattle.site_docs.specs.declared.stamps_draft.StampsDraft.{StampsDraft}

-- the draft is the text of this owner's summary as far as the rows of these stamps
pub record HoldsStamps (draft : StampsDraft) (owner : List ℕ) (stamps : Stamps) : Type 0 where
  pub rows : HoldsOpen (stamps_opening owner) draft.rows (stamps_values stamps)
  pub is_owner : IsSiteName owner
  pub each : All IsKeptStamp stamps
