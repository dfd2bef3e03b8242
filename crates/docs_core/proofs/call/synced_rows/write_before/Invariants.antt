use Rattle.std.proofs.Common.{◌≡◌, List, ℕ}
use Rattle.catalogue.specs.Entries.{Entries, IsAboveAll}
use Rattle.site_docs.specs.WrittenRows.{HasRead, current_of, left_in}
use Rattle.docs_core.specs.inner.SyncedRows.{IsSyncedBefore, IsSyncedTo, order_to}
use Rattle.docs_core.proofs.call.synced_rows.write_before.Given as goal

-- the rows with lesser keys as far as they are written, and how the next one is ordered
abbrev pub invariant-loop-order : goal.invariant-loop-order
invariant-loop-order l = (l.order ≡ order_to (l.id, l.lang) (current_of l.rows))
    × ((bytes : List ℕ) × (read : Entries) × HasRead bytes l.rows read)
    × ((bytes : List ℕ) (seen : Entries) → IsAboveAll (l.id, l.lang) seen
    → IsSyncedTo l.tests bytes l.fn.rows l.fn.draft seen
    → IsSyncedBefore (l.id, l.lang) l.tests bytes l.rows l.draft seen)

abbrev pub decreases-loop-order : goal.decreases-loop-order
decreases-loop-order l = left_in l.rows
