use Rattle.list_core.proofs.Basics.{false_true}
use Rattle.nego_core.proofs.WideningEarliestLemmas.{matched_first, matched_nowhere}
use Rattle.nego_core.proofs.widened_choice.WidenedRanges.first_tried.Goals as goal
use Rattle.nego_core.proofs.widened_choice.WidenedRanges.first_tried.Goals.{else-tried-order-via-then-tried-order+else-not-named_refuse}
use Rattle.nego_core.proofs.widened_choice.WidenedRanges.first_tried.Goals.{else-tried-order-via-else-tried-order}

pub returns-then-not-named_refuse : goal.returns-then-not-named_refuse
returns-then-not-named_refuse c =
    matched_first _ _ c.args.lang.now c.first_tried-tried.result c.order.result.now
    c.order.ensures (c.first_tried-tried.ensures c.order.result.now c.order.ensures)
    c.if-tried-order.true
    (λ refused. false_true ((rw c.as_str.ensures.text at c.if-not-named_refuse.ensures).1 refused))

pub returns-else-tried-order : goal.returns-else-tried-order
returns-else-tried-order c = elim c.else-tried-order.branch [
  | else-tried-order-via-then-tried-order+else-not-named_refuse w ↦ λ m h.
      h.3 (rw w.as_str.ensures.text at (w.named_refuse.ensures.0 w.if-not-named_refuse.false))
  | else-tried-order-via-else-tried-order w ↦
      matched_nowhere _ _ c.args.lang.now c.first_tried-tried.result
      c.order.result.now c.order.ensures (c.first_tried-tried.ensures c.order.result.now
      c.order.ensures) w.if-tried-order.false
]
