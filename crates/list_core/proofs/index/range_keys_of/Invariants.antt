use Rattle.list_core.proofs.index.range_keys_of.Given as goal
use Rattle.list_core.specs.inner.Index.{AreRangeKeys}

abbrev pub invariant-loop-place : goal.invariant-loop-place
invariant-loop-place l = AreRangeKeys l.items l.place l.keys.items
