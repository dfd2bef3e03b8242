use Rattle.std.proofs.Common.{◌≡◌, ◌≤◌, ◌*◌, take, sum_by}
use Rattle.lang_core.specs.inner.Subtag.{class_of}
use Rattle.lang_core.proofs.subtag.class_sum.Given as goal

abbrev pub invariant-loop-byte : goal.invariant-loop-byte
invariant-loop-byte l =
    (l.sum ≡ sum_by class_of (take l.byte-index l.text)) × (l.sum ≤ 16 * l.byte-index)
