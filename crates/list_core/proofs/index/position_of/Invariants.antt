use Rattle.std.proofs.Common.{◌-◌}
use Rattle.list_core.proofs.IndexLemmas.{IsPositionWithin}
use Rattle.list_core.proofs.index.position_of.Given as goal

abbrev pub invariant-loop-low : goal.invariant-loop-low
invariant-loop-low l = IsPositionWithin l.items l.places l.text l.low l.high

abbrev pub decreases-loop-low : goal.decreases-loop-low
decreases-loop-low l = l.high - l.low
