use Rattle.cell_core.proofs.SiteNameLemmas.{cmp-padded_names}
use Rattle.cell_core.proofs.laws.filled_names_keep_order.Goals as goal

pub returns : goal.returns
returns c = cmp-padded_names
