use Rattle.list_core.proofs.FallbacksLawsLemmas.{one_table}
use Rattle.list_core.proofs.laws.one_table.Goals as goal

pub returns : goal.returns
returns c = one_table
