use Rattle.std.proofs.Common.{take}
use Rattle.nego_core.specs.WidenedChoice.{MatchEarliest}
use Rattle.catalogue.specs.Live.{languages}
use Rattle.query_docs.specs.inner.LiveCells.{labels_of}
use Rattle.query_docs.proofs.live_cells.earliest_of.Given as goal

-- the earliest of the cells so far
abbrev pub invariant-loop-cell : goal.invariant-loop-cell
invariant-loop-cell l = MatchEarliest l.ranges.scheme l.ranges.list.now
    (languages (labels_of (take l.cell-index l.cells))) l.earliest
