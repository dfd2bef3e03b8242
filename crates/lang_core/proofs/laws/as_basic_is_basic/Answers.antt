use Rattle.lang_core.proofs.LookupTextLemmas.{as_basic-extended, as_basic-basic}
use Rattle.lang_core.proofs.laws.as_basic_is_basic.Goals as goal

pub returns-clause-extended : goal.returns-clause-extended
returns-clause-extended c = as_basic-extended

pub returns-clause-basic : goal.returns-clause-basic
returns-clause-basic c = as_basic-basic
