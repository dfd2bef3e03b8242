use Rattle.list_core.proofs.DecidingLemmas.{all_basic}
use Rattle.list_core.proofs.indexed_items.IndexedItems.best_basic.Goals as goal

pub returns : goal.returns
returns c = rw c.better_of.ensures (all_basic _ _ _ _ c.best_named.ensures c.best_with.ensures)
