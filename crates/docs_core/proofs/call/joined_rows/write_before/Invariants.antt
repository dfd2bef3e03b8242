use Rattle.std.proofs.Common.{◌≡◌, ◌++◌, All, length}
use Rattle.std.specs.declared.cmp.Ordering.TheVariants.{Less}
use Rattle.cell_core.specs.Entry.{key_cmp}
use Rattle.catalogue.specs.Entries.{Entries, Entry}
use Rattle.site_docs.specs.RowsDraft.{HoldsRows}
use Rattle.docs_core.specs.inner.JoinedRows.{left_of}
use Rattle.docs_core.proofs.call.joined_rows.write_before.Given as goal

-- the cells that were written, and those that are left
abbrev pub invariant-loop-order : goal.invariant-loop-order
invariant-loop-order l = (less : Entries) × (left_of l.fn.left ≡ less ++ left_of l.left)
    × All (λ (e : Entry). key_cmp e.0 (l.id, l.lang) ≡ Less) less
    × ((rows : Entries) → HoldsRows l.fn.draft rows → HoldsRows l.draft (rows ++ less))

abbrev pub decreases-loop-order : goal.decreases-loop-order
decreases-loop-order l = length (left_of l.left)
