use Rattle.docs_core.proofs.UpdatingLaws.{keeps_cell}
use Rattle.docs_core.proofs.laws.an_update_keeps_what_is_equal.Goals as goal

pub returns : goal.returns
returns c = keeps_cell
