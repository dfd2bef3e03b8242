use Rattle.list_core.specs.Deciding.{IsBest}
use Rattle.list_core.proofs.DecidingLemmas.{IsShort}
use Rattle.list_core.proofs.indexed_items.IndexedItems.best_named.Given as goal

abbrev pub invariant-loop-at : goal.invariant-loop-at
invariant-loop-at l = IsBest (λ _ i. IsShort l.text l.at i) l.self l.best
