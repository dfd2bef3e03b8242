use Rattle.std.proofs.Common.{◌-◌, ◌≤◌}
use Rattle.text_docs.proofs.part.first_after.Given as goal

abbrev pub invariant-loop-row : goal.invariant-loop-row
invariant-loop-row l = (l.start ≤ l.from) × (l.from ≤ l.end)

abbrev pub decreases-loop-row : goal.decreases-loop-row
decreases-loop-row l = l.end - l.from
