use Rattle.list_core.specs.FirstTried.{AreFirstsIfAny, AreFirstTried}
use Rattle.list_core.proofs.Basics.{if_ok}
use Rattle.list_core.proofs.priority_list.firsts_of.Goals as goal

pub returns-in-Some-Texts : goal.returns-in-Some-Texts
returns-in-Some-Texts c =
    let items = c.args.items.now in
    let order = c.args.order.now in
    if_ok (λ firsts. AreFirstTried items order firsts.items)
    (λ firsts. AreFirstsIfAny items order firsts.items) c.first_tried_of.result (λ firsts h some. h)
    (rw c.new.ensures at c.first_tried_of.ensures)
