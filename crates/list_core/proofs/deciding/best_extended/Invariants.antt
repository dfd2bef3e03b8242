use Rattle.std.proofs.Common.{ℕ, List, take}
use Rattle.lang_core.specs.Text.{pieces}
use Rattle.lang_core.specs.Matching.{Extended}
use Rattle.list_core.specs.Deciding.{IsBest}
use Rattle.list_core.specs.Buckets.{AreLinked}
use Rattle.list_core.proofs.BucketsLemmas.{FitsAmong}
use Rattle.list_core.proofs.deciding.best_extended.Given as goal

abbrev pub invariant-loop-bucket : goal.invariant-loop-bucket
invariant-loop-bucket l =
    (numbers : List ℕ) → AreLinked l.items numbers l.buckets
    → IsBest (FitsAmong (λ i. Extended (pieces i.range) (pieces l.tag)) numbers
    (take l.bucket-index l.bucket-items)) l.items l.best
