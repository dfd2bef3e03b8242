use Rattle.std.proofs.Common.{◌≡◌, length}
use Rattle.cell_core.specs.Iter.{entries_left}
use Rattle.catalogue.specs.Labels.{live_left}
use Rattle.catalogue.proofs.labels.next_live.Given as goal

abbrev pub invariant-loop-lang : goal.invariant-loop-lang
invariant-loop-lang l = live_left l.cells ≡ live_left l.initial.cells

abbrev pub decreases-loop-lang : goal.decreases-loop-lang
decreases-loop-lang l = length (entries_left l.cells)
