use Rattle.std.proofs.Common.{refl}
use Rattle.list_core.proofs.DecidingLemmas.{short_more, short_same, all_named}
use Rattle.list_core.proofs.indexed_items.IndexedItems.best_named.Goals as goal
use Rattle.list_core.proofs.indexed_items.IndexedItems.best_named.Goals.{then-text-at-eq-HYPHEN}
use Rattle.list_core.proofs.indexed_items.IndexedItems.best_named.Goals.{else-text-at-eq-HYPHEN}

pub loop-at-preserved : goal.loop-at-preserved
loop-at-preserved c = elim c.if-text-at-eq-HYPHEN.branch [
  | then-text-at-eq-HYPHEN w ↦
      rw (w.best-is, w.better_of-best.ensures)
      (short_more _ _ _ _ _ _ c.loop-at-test.true w.if-text-at-eq-HYPHEN.true refl
      c.loop-at.invariant w.best_named_with.ensures)
  | else-text-at-eq-HYPHEN w ↦
      rw w.best-is
      (short_same _ _ _ _ c.loop-at-test.true w.if-text-at-eq-HYPHEN.false c.loop-at.invariant)
]

pub returns : goal.returns
returns c =
    rw c.better_of.ensures
    (all_named _ _ _ _ _ c.loop-at-test.false c.loop-at.auto.at-end c.loop-at.invariant
    c.best_named_with-2.ensures)
