use Rattle.std.proofs.Common.{◌<◌, take, vec_len}
use Rattle.cell_core.specs.Keyed.{IsJoinedWith}
use Rattle.cell_core.specs.Chunks.{all_of, IsKept}
use Rattle.cell_core.proofs.chunk_joins.join_chunks.Given as goal

abbrev pub invariant-loop-pairs : goal.invariant-loop-pairs
invariant-loop-pairs g l = record {
  some : 0 < vec_len l.chunks.list;
  kept : IsKept g.K.Ord.cmp l.chunks;
  joined : IsJoinedWith g.K.Ord.cmp g.J.Join.joined (all_of l.fn.chunks.list.items)
      (all_of (take l.pairs-index l.theirs)) (all_of l.chunks.list.items);
}
