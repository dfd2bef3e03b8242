use Rattle.std.proofs.Common.{refl}
use Rattle.list_core.proofs.FirstTriedLemmas.{none_tried}
use Rattle.list_core.proofs.priority_list.PriorityList.first_tried.Goals as goal

pub returns-in-None : goal.returns-in-None
returns-in-None c =
    none_tried c.args.scheme c.args.self.now c.order.result.now c.args.lang.now _
    c.in-None.ensures.value c.order.ensures refl
