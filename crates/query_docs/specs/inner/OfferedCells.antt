-- Cells of which those that are offered are passed on.
use Rattle.std.specs.Prelude.{◌≡◌}
use Rattle.nego_core.specs.Offer.{items_of}
use Rattle.catalogue.specs.Entries.{Entries}
use Rattle.catalogue.specs.EntriesOffered.{offered_cells}
use Rattle.query_docs.specs.declared.offered_cells.OfferedCells.{OfferedCells}

-- what the other sink became by the cells that are offered, of those that were seen
pub record HasOffered {S : Type 0} (Holds : S → S → Entries → Type 0)
    (first now : OfferedCells S) (seen : Entries) : Type 0 where
  pub offer_is : items_of now.offer ≡ items_of first.offer
  pub holds : Holds first.sink now.sink (offered_cells (items_of first.offer) seen)
