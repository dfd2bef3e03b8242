use Rattle.list_core.proofs.LookupOrderKeyLemmas.{tried_is}
use Rattle.list_core.proofs.lookup_order.is_tried.Goals as goal

pub returns-then-weight-ne0 : goal.returns-then-weight-ne0
returns-then-weight-ne0 c =
    tried_is c.args.item.now c.lookup_text.result.now c.ne.result
    (rw c.range.ensures at c.lookup_text.ensures) c.ne.ensures
    (rw c.weight.ensures.value at c.if-weight-ne0.true)
