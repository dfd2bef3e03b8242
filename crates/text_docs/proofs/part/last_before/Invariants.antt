use Rattle.std.proofs.Common.{◌-◌, ◌≤◌}
use Rattle.text_docs.specs.inner.Part.{HasAllFrom}
use Rattle.text_docs.proofs.part.last_before.Given as goal

-- no row before the lower place is of the message
abbrev pub invariant-loop-low : goal.invariant-loop-low
invariant-loop-low l = record {
  ordered : l.low ≤ l.high;
  within : l.high ≤ l.fn.rows.end;
  begins : HasAllFrom l.fn.text l.fn.id l.low;
}

abbrev pub decreases-loop-low : goal.decreases-loop-low
decreases-loop-low l = l.high - l.low
