use Rattle.std.proofs.Common.{◌-◌, ◌≤◌, length}
use Rattle.row_docs.specs.inner.PlainTexts.{IsPlainBefore}
use Rattle.row_docs.proofs.plain_texts.stop_in.Given as goal

abbrev pub invariant-loop-from : goal.invariant-loop-from
invariant-loop-from l = record {
  within : l.from ≤ length l.bytes;
  before : IsPlainBefore l.bytes l.from;
}

abbrev pub decreases-loop-from : goal.decreases-loop-from
decreases-loop-from l = length l.bytes - l.from

abbrev pub invariant-loop-from-2 : goal.invariant-loop-from-2
invariant-loop-from-2 l = record {
  within : l.from ≤ length l.bytes;
  before : IsPlainBefore l.bytes l.from;
}

abbrev pub decreases-loop-from-2 : goal.decreases-loop-from-2
decreases-loop-from-2 l = length l.bytes - l.from
