use Rattle.std.proofs.Common.{◌≡◌, length}
use Rattle.cell_core.specs.Iter.{entries_left}
use Rattle.cell_core.proofs.keyed.iter.IterIterator.next.Given as goal

abbrev pub invariant-loop-chunk : goal.invariant-loop-chunk
invariant-loop-chunk g l = entries_left l.self ≡ entries_left l.initial.self

abbrev pub decreases-loop-chunk : goal.decreases-loop-chunk
decreases-loop-chunk g l = length l.self.chunks.now
