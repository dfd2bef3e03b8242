use Rattle.std.proofs.Common.{take}
use Rattle.std.specs.FinMap.Entries.{find}
use Rattle.cell_core.specs.Keyed.{AgreeIfBoth}
use Rattle.cell_core.specs.Chunks.{all_of}
use Rattle.cell_core.proofs.chunk_joins.agree_chunks.Given as goal

abbrev pub invariant-loop-pairs : goal.invariant-loop-pairs
invariant-loop-pairs g l =
    (q : g.row.K.Denot)
    → AgreeIfBoth g.J.Join.agree (find g.K.Ord.cmp q (all_of (take l.pairs-index l.mine)))
    (find g.K.Ord.cmp q (all_of l.theirs))
