use Rattle.nego_core.proofs.ChoosingOrderLemmas.{each_once}
use Rattle.nego_core.proofs.laws.order_has_each_once.Goals as goal

pub returns : goal.returns
returns c = each_once
