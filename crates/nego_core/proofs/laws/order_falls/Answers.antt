use Rattle.nego_core.proofs.ChoosingOrderLemmas.{weights_fall, as_written}
use Rattle.nego_core.proofs.laws.order_falls.Goals as goal

pub returns-clause-falls : goal.returns-clause-falls
returns-clause-falls c = weights_fall

pub returns-clause-written : goal.returns-clause-written
returns-clause-written c = as_written
