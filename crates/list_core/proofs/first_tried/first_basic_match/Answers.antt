use Rattle.std.proofs.Common.{refl}
use Rattle.list_core.proofs.FirstTriedLemmas.{front_more, front_same, front_whole}
use Rattle.list_core.proofs.first_tried.first_basic_match.Goals as goal
use Rattle.list_core.proofs.first_tried.first_basic_match.Goals.{then-text-at-eq-HYPHEN}
use Rattle.list_core.proofs.first_tried.first_basic_match.Goals.{else-text-at-eq-HYPHEN}

pub loop-at-preserved : goal.loop-at-preserved
loop-at-preserved c = elim c.if-text-at-eq-HYPHEN.branch [
  | then-text-at-eq-HYPHEN w ↦
      rw (w.found-is, w.earlier_of-found.ensures)
      (front_more _ _ _ _ _ _ _ c.loop-at-test.true w.if-text-at-eq-HYPHEN.true refl
      c.loop-at.invariant w.first_with.ensures)
  | else-text-at-eq-HYPHEN w ↦
      rw w.found-is
      (front_same _ _ _ _ _ c.loop-at-test.true w.if-text-at-eq-HYPHEN.false c.loop-at.invariant)
]

pub returns : goal.returns
returns c =
    rw c.earlier_of.ensures
    (front_whole _ _ _ _ _ _ c.loop-at-test.false c.loop-at.auto.at-end c.loop-at.invariant
    c.first_with-2.ensures)
