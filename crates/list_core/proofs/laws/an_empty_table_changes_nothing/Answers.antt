use Rattle.list_core.proofs.FallbacksLawsLemmas.{changes_nothing, nothing_changes}
use Rattle.list_core.proofs.laws.an_empty_table_changes_nothing.Goals as goal

pub returns : goal.returns
returns c = λ scheme malformed bytes items. (
  changes_nothing scheme malformed bytes items,
  nothing_changes scheme malformed bytes items,
)
