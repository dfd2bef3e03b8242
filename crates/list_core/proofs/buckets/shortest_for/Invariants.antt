use Rattle.std.proofs.Common.{◌<◌}
use Rattle.lang_core.specs.Text.{pieces}
use Rattle.lang_core.specs.Subtags.{subtags_left}
use Rattle.list_core.specs.Buckets.{MayBeIn}
use Rattle.list_core.specs.declared.buckets.TheConstants.{BUCKET_COUNT}
use Rattle.list_core.proofs.BucketsLemmas.{AreAmong}
use Rattle.list_core.proofs.buckets.shortest_for.Given as goal

abbrev pub invariant-loop-subtag : goal.invariant-loop-subtag
invariant-loop-subtag l =
    AreAmong (subtags_left l.subtag-iterator) (pieces l.range)
    × MayBeIn (pieces l.range) l.shortest × (l.shortest < BUCKET_COUNT)
