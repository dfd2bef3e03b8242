use Rattle.std.proofs.Common.{◌≡◌, ◌≤◌, length}
use Rattle.list_core.specs.Fallbacks.{skip_gaps}
use Rattle.list_core.proofs.fallbacks.skip_gaps.Given as goal

abbrev pub invariant-loop-rest : goal.invariant-loop-rest
invariant-loop-rest l = (skip_gaps l.text ≡ skip_gaps l.rest) × (length l.rest ≤ length l.text)

abbrev pub decreases-loop-rest : goal.decreases-loop-rest
decreases-loop-rest l = length l.rest
