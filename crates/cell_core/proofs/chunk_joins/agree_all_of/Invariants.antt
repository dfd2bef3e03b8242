use Rattle.std.proofs.Common.{◌-◌, ◌≤◌, length, take}
use Rattle.std.specs.FinMap.Entries.{find}
use Rattle.cell_core.specs.Keyed.{AgreeIfBoth}
use Rattle.cell_core.specs.Chunks.{all_of}
use Rattle.cell_core.proofs.chunk_joins.agree_all_of.Given as goal

abbrev pub invariant-loop-from : goal.invariant-loop-from
invariant-loop-from g l = record {
  within : l.from ≤ length l.pairs;
  agree : (q : g.row.K.Denot)
      → AgreeIfBoth g.J.Join.agree (find g.K.Ord.cmp q (take l.from l.pairs))
      (find g.K.Ord.cmp q (all_of l.theirs));
}

abbrev pub decreases-loop-from : goal.decreases-loop-from
decreases-loop-from g l = length l.pairs - l.from
