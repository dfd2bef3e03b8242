use Rattle.list_core.proofs.FallbacksLawsLemmas.{bad_is_no_table}
use Rattle.list_core.proofs.laws.a_bad_element_is_no_table.Goals as goal

pub returns : goal.returns
returns c = bad_is_no_table
