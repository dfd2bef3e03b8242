use Rattle.std.proofs.Common.{◌≡◌, length}
use Rattle.catalogue.specs.ChangesLeft.{changes_left, sides_left}
use Rattle.catalogue.proofs.changes.ChangesIterator.next.Given as goal

abbrev pub invariant-loop-change : goal.invariant-loop-change
invariant-loop-change l = changes_left l.self ≡ changes_left l.initial.self

abbrev pub decreases-loop-change : goal.decreases-loop-change
decreases-loop-change l = length (sides_left l.self.sides)
