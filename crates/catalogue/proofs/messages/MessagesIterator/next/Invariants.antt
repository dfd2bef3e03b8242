use Rattle.std.proofs.Common.{◌≡◌, length}
use Rattle.cell_core.specs.Iter.{entries_left}
use Rattle.catalogue.specs.Messages.{messages_left}
use Rattle.catalogue.proofs.messages.MessagesIterator.next.Given as goal

abbrev pub invariant-loop-id : goal.invariant-loop-id
invariant-loop-id l = messages_left l.self ≡ messages_left l.initial.self

abbrev pub decreases-loop-id : goal.decreases-loop-id
decreases-loop-id l = length (entries_left l.self.messages)
