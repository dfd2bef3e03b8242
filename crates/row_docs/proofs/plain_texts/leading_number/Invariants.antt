use Rattle.std.proofs.Common.{◌-◌, ◌<◌, length}
use Rattle.row_docs.specs.inner.PlainTexts.{IsDecimalFront}
use Rattle.row_docs.proofs.plain_texts.leading_number.Given as goal

-- the digits so far are the number
abbrev pub invariant-loop-number : goal.invariant-loop-number
invariant-loop-number l = record {
  front : IsDecimalFront l.bytes l.number l.len;
  some : 0 < l.number;
}

abbrev pub decreases-loop-number : goal.decreases-loop-number
decreases-loop-number l = length l.bytes - l.len
