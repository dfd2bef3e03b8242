use Rattle.std.proofs.Common.{◌≡◌, ◌-◌, ◌<◌, ◌≤◌, length, take, drop}
use Rattle.std.specs.Prelude.{T}
use Rattle.std.specs.FinMap.Entries.{below_all}
use Rattle.cell_core.specs.Chunks.{all_of}
use Rattle.cell_core.specs.inner.KeyedPlaces.{place_of}
use Rattle.cell_core.proofs.chunks.chunk_for.Given as goal

abbrev pub invariant-loop-low : goal.invariant-loop-low
invariant-loop-low g l = record {
  order : l.low < l.high;
  within : l.high ≤ length l.chunks;
  front : place_of g.K.Ord.cmp (g.Q.Query.sought l.query) (all_of (take l.low l.chunks))
      ≡ length (all_of (take l.low l.chunks));
  back : T (below_all g.K.Ord.cmp (g.Q.Query.sought l.query) (all_of (drop l.high l.chunks)));
}

abbrev pub decreases-loop-low : goal.decreases-loop-low
decreases-loop-low g l = l.high - l.low
