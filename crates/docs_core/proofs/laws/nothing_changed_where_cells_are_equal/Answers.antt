use Rattle.query_docs.proofs.ChangesLemmas.{nothing_changed}
use Rattle.docs_core.proofs.laws.nothing_changed_where_cells_are_equal.Goals as goal

pub returns : goal.returns
returns c = nothing_changed
