use Rattle.list_core.specs.Buckets.{AreNumbers}
use Rattle.list_core.proofs.buckets.numbers_of.Given as goal

abbrev pub invariant-loop-item : goal.invariant-loop-item
invariant-loop-item l = AreNumbers l.items l.item-index l.numbers.items
