use Rattle.std.proofs.Common.{◌-◌, ◌≤◌}
use Rattle.text_docs.proofs.row.next_row.Given as goal

abbrev pub invariant-loop-bracket : goal.invariant-loop-bracket
invariant-loop-bracket l = l.from ≤ l.place

abbrev pub decreases-loop-bracket : goal.decreases-loop-bracket
decreases-loop-bracket l = l.end - l.place
