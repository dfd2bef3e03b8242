use Rattle.list_core.specs.declared.hashed_ranges.TheConstants.{MAX_BUCKET_LEN}
use Rattle.list_core.proofs.HashedRangesLemmas.{AreLengths}
use Rattle.list_core.proofs.hashed_ranges.is_crowded.Given as goal

abbrev pub invariant-loop-number : goal.invariant-loop-number
invariant-loop-number l = AreLengths MAX_BUCKET_LEN l.numbers l.number-index l.lengths.items
