use Rattle.std.proofs.Common.{◌≡◌, ◌-◌, ◌<◌, ◌≤◌, length, get_or}
use Rattle.std.specs.declared.cmp.Ordering.TheVariants.{Less}
use Rattle.cell_core.specs.inner.KeyedPlaces.{place_of}
use Rattle.cell_core.proofs.chunks.bisect.Given as goal

abbrev pub invariant-loop-low : goal.invariant-loop-low
invariant-loop-low g l = record {
  from : l.low ≤ place_of g.K.Ord.cmp (g.Q.Query.sought l.query) l.pairs;
  to : place_of g.K.Ord.cmp (g.Q.Query.sought l.query) l.pairs ≤ l.high;
  within : l.high ≤ length l.pairs;
  apart : (d : g.row.K.Denot × g.row.J.Denot) → l.high < length l.pairs
      → (let e = get_or l.pairs l.high d in g.K.Ord.cmp (g.Q.Query.sought l.query) e.0 ≡ Less);
}

abbrev pub decreases-loop-low : goal.decreases-loop-low
decreases-loop-low g l = l.high - l.low
