use Rattle.std.proofs.Common.{length, ◌-◌}
use Rattle.list_core.proofs.HashedRangesLemmas.{IsSoughtTo}
use Rattle.list_core.proofs.hashed_ranges.place_in.Given as goal

abbrev pub invariant-loop-place : goal.invariant-loop-place
invariant-loop-place l = IsSoughtTo l.items l.text l.place

abbrev pub decreases-loop-place : goal.decreases-loop-place
decreases-loop-place l = length l.items - l.place
