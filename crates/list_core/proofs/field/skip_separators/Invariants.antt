use Rattle.std.proofs.Common.{◌≡◌, length}
use Rattle.list_core.specs.inner.Field.{skip_separators}
use Rattle.list_core.proofs.field.skip_separators.Given as goal

abbrev pub invariant-loop-rest : goal.invariant-loop-rest
invariant-loop-rest l = skip_separators l.text ≡ skip_separators l.rest

abbrev pub decreases-loop-rest : goal.decreases-loop-rest
decreases-loop-rest l = length l.rest
