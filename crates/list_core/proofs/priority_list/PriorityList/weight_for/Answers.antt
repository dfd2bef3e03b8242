use Rattle.list_core.proofs.DecidingLemmas.{no_weight}
use Rattle.list_core.proofs.priority_list.PriorityList.weight_for.Goals as goal

pub returns-in-None : goal.returns-in-None
returns-in-None c = no_weight _ _ _ c.in-None.ensures.decides
