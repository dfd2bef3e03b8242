use Rattle.cell_core.proofs.SiteNamePaddedLemmas.{IsSiteName-padded_name}
use Rattle.cell_core.proofs.laws.padded_names_are_names.Goals as goal

pub returns : goal.returns
returns c = IsSiteName-padded_name
