-- The rows of a site that a summary lacks.
use Rattle.std.specs.Prelude.{◌≡◌, List, drop}
use Rattle.std.specs.FinMap.Entries.{find}
use Rattle.cell_core.specs.Entry.{EntryKey, key_cmp}
use Rattle.catalogue.specs.Entries.{Entries, IsAboveAll}
use Rattle.site_docs.specs.RowsDraft.{HoldsRows}
use Rattle.summary_docs.specs.Shown.{KnownCell, known_in, lacked_of}
use Rattle.summary_docs.specs.declared.lacked_rows.LackedRows.{LackedRows}

-- the rows of the cells that are lacked by what is known; what is left has what all has of each key
-- that is greater than the cells'
pub record HoldsLacked (rows : LackedRows) (known : List (EntryKey × KnownCell)) (cells : Entries)
    : Type 0 where
  pub draft : HoldsRows rows.draft (lacked_of cells known)
  pub left : (q : EntryKey) → IsAboveAll q cells
      → find key_cmp q (drop rows.passed (known_in rows.summary.now)) ≡ find key_cmp q known
