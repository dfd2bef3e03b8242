use Rattle.std.proofs.Common.{List, ℕ}
use Rattle.catalogue.specs.Entries.{Entries}
use Rattle.site_docs.specs.WrittenRows.{HasRead, left_in}
use Rattle.docs_core.specs.inner.SyncedRows.{IsSyncedAll}
use Rattle.docs_core.proofs.call.synced_rows.write_all.Given as goal

-- the rows that are left as far as they are written
abbrev pub invariant-loop-alloc : goal.invariant-loop-alloc
invariant-loop-alloc l = ((bytes : List ℕ) × (read : Entries) × HasRead bytes l.rows read)
    × ((bytes : List ℕ) (seen : Entries) → IsSyncedAll l.tests bytes l.fn.rows l.fn.draft seen
    → IsSyncedAll l.tests bytes l.rows l.draft seen)

abbrev pub decreases-loop-alloc : goal.decreases-loop-alloc
decreases-loop-alloc l = left_in l.rows
