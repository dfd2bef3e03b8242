use Rattle.list_core.proofs.LookupOrderLemmas.{one_order_of}
use Rattle.list_core.proofs.laws.one_order.Goals as goal

pub returns : goal.returns
returns c = one_order_of
