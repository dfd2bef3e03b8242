use Rattle.lang_core.specs.Text.{pieces}
use Rattle.lang_core.specs.Subtags.{subtags_left}
use Rattle.list_core.proofs.BucketsLemmas.{AreBucketsSoFar}
use Rattle.list_core.proofs.buckets.buckets_of_tag.Given as goal

abbrev pub invariant-loop-subtag : goal.invariant-loop-subtag
invariant-loop-subtag l =
    AreBucketsSoFar (pieces l.tag) (subtags_left l.subtag-iterator) l.buckets.items
