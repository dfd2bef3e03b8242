use Rattle.lang_core.proofs.PartsLaw.{in_order}
use Rattle.lang_core.proofs.laws.parts_in_order.Goals as goal

pub returns : goal.returns
returns c = in_order
