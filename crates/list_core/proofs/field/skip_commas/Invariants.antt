use Rattle.std.proofs.Common.{◌≡◌, ◌≤◌, length}
use Rattle.list_core.specs.inner.Field.{skip_separators}
use Rattle.list_core.proofs.field.skip_commas.Given as goal

abbrev pub invariant-loop-others : goal.invariant-loop-others
invariant-loop-others l =
    (skip_separators l.rest ≡ skip_separators l.text) × (length l.rest ≤ length l.text)

abbrev pub decreases-loop-others : goal.decreases-loop-others
decreases-loop-others l = length l.rest
