use Rattle.std.proofs.Common.{◌≡◌, length}
use Rattle.list_core.specs.Fallbacks.{right_of}
use Rattle.list_core.proofs.fallbacks.Fallbacks.right_of.Given as goal

abbrev pub invariant-loop-rest : goal.invariant-loop-rest
invariant-loop-rest l = right_of l.self l.text ≡ right_of l.rest l.text

abbrev pub decreases-loop-rest : goal.decreases-loop-rest
decreases-loop-rest l = length l.rest
