use Rattle.std.proofs.Common.{◌-◌, ◌<◌, ◌≤◌, length, take, vec_len}
use Rattle.cell_core.specs.Keyed.{IsJoinedWith}
use Rattle.cell_core.specs.Chunks.{all_of, IsKept}
use Rattle.cell_core.proofs.chunk_joins.join_all_of.Given as goal

abbrev pub invariant-loop-from : goal.invariant-loop-from
invariant-loop-from g l = record {
  within : l.from ≤ length l.pairs;
  some : 0 < vec_len l.chunks.list;
  kept : IsKept g.K.Ord.cmp l.chunks;
  joined : IsJoinedWith g.K.Ord.cmp g.J.Join.joined (all_of l.fn.chunks.list.items)
      (take l.from l.pairs) (all_of l.chunks.list.items);
}

abbrev pub decreases-loop-from : goal.decreases-loop-from
decreases-loop-from g l = length l.pairs - l.from
