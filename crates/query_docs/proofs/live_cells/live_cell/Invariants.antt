use Rattle.std.proofs.Common.{◌≡◌, drop}
use Rattle.std.specs.FinMap.Entries.{find}
use Rattle.cell_core.specs.Entry.{text_cmp}
use Rattle.query_docs.specs.inner.LiveCells.{labels_of}
use Rattle.query_docs.proofs.live_cells.live_cell.Given as goal

-- no cell before has a label of this language
abbrev pub invariant-loop-cell : goal.invariant-loop-cell
invariant-loop-cell l = find text_cmp l.text (labels_of l.cells)
    ≡ find text_cmp l.text (labels_of (drop l.cell-index l.cells))
