use Rattle.std.proofs.Common.{◌≡◌, length}
use Rattle.json_docs.specs.Numbers.{are_in_range}
use Rattle.json_docs.proofs.json_text.scanning.has_numbers_in_range.Given as goal

abbrev pub invariant-loop-token : goal.invariant-loop-token
invariant-loop-token l = are_in_range l.fn.reader ≡ are_in_range l.reader

abbrev pub decreases-loop-token : goal.decreases-loop-token
decreases-loop-token l = length l.reader
