use Rattle.cell_core.proofs.SiteNamePaddedLemmas.{cmp-padded_name}
use Rattle.cell_core.proofs.laws.padded_names_keep_order.Goals as goal

pub returns : goal.returns
returns c = cmp-padded_name
