use Rattle.std.proofs.Common.{◌≡◌, ◌+◌, ◌-◌, ◌≤◌, ◌++◌, vec_len, vec_capacity}
use Rattle.std.specs.Vec.Iter.{into_iter_items, into_iter_len}
use Rattle.cell_core.proofs.InterleaveLemmas.{IsInterleaved}
use Rattle.cell_core.proofs.interleave.interleave.Given as goal

abbrev pub invariant-loop-place : goal.invariant-loop-place
invariant-loop-place g l = record {
  interleaved : IsInterleaved g.K.Ord.cmp (l.fn.pairs.items ++ into_iter_items l.fn.tail)
      (into_iter_items l.fn.missing) (l.pairs.items ++ into_iter_items l.tail)
      (into_iter_items l.missing) l.moved (vec_len l.pairs - l.moved);
  len : vec_len l.pairs + into_iter_len l.tail + into_iter_len l.missing
      ≡ vec_len l.fn.pairs + into_iter_len l.fn.tail + into_iter_len l.fn.missing;
  up : l.moved ≤ vec_len l.pairs;
  room : vec_len l.pairs + into_iter_len l.tail + into_iter_len l.missing ≤ vec_capacity l.pairs;
}

abbrev pub decreases-loop-place : goal.decreases-loop-place
decreases-loop-place g l = into_iter_len l.missing
