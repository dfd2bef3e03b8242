use Rattle.std.proofs.Common.{◌≡◌, length}
use Rattle.list_core.specs.Fallbacks.{trim_end}
use Rattle.list_core.proofs.fallbacks.trim_end.Given as goal

abbrev pub invariant-loop-rest : goal.invariant-loop-rest
invariant-loop-rest l = trim_end l.text ≡ trim_end l.rest

abbrev pub decreases-loop-rest : goal.decreases-loop-rest
decreases-loop-rest l = length l.rest
