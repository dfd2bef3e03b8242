use Rattle.std.proofs.Common.{◌≡◌, length}
use Rattle.list_core.specs.inner.Weight.{skip_blanks}
use Rattle.list_core.proofs.weight.trim_start.Given as goal

abbrev pub invariant-loop-rest : goal.invariant-loop-rest
invariant-loop-rest l = skip_blanks l.text ≡ skip_blanks l.rest

abbrev pub decreases-loop-rest : goal.decreases-loop-rest
decreases-loop-rest l = length l.rest
