use Rattle.list_core.proofs.IndexLemmas.{NoneBefore}
use Rattle.list_core.proofs.indexed_items.first_place.Given as goal

abbrev pub invariant-loop-place : goal.invariant-loop-place
invariant-loop-place l = NoneBefore l.items l.text l.place
