use Rattle.std.proofs.Common.{ℕ, List, length, ◌-◌}
use Rattle.lang_core.specs.Text.{pieces}
use Rattle.lang_core.specs.Matching.{Extended}
use Rattle.list_core.specs.Buckets.{AreLinked}
use Rattle.list_core.proofs.BucketsLemmas.{IsAskedTo}
use Rattle.list_core.proofs.deciding.best_in.Given as goal

abbrev pub invariant-loop-place : goal.invariant-loop-place
invariant-loop-place l =
    (numbers : List ℕ) → AreLinked l.items numbers l.buckets
    → IsAskedTo (λ i. Extended (pieces i.range) (pieces l.tag)) l.items numbers l.bucket l.place
    l.best

abbrev pub decreases-loop-place : goal.decreases-loop-place
decreases-loop-place l = length l.items - l.place
