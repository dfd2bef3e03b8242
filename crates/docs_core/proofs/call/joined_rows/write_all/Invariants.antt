use Rattle.std.proofs.Common.{◌≡◌, ◌++◌, length}
use Rattle.catalogue.specs.Entries.{Entries}
use Rattle.site_docs.specs.RowsDraft.{HoldsRows}
use Rattle.docs_core.specs.inner.JoinedRows.{left_of}
use Rattle.docs_core.proofs.call.joined_rows.write_all.Given as goal

-- the cells that were written, and those that are left
abbrev pub invariant-loop-other : goal.invariant-loop-other
invariant-loop-other l = (done : Entries) × (left_of l.fn.left ≡ done ++ left_of l.left)
    × ((rows : Entries) → HoldsRows l.fn.draft rows → HoldsRows l.draft (rows ++ done))

abbrev pub decreases-loop-other : goal.decreases-loop-other
decreases-loop-other l = length (left_of l.left)
