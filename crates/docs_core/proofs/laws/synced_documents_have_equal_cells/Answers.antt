use Rattle.docs_core.proofs.SitesExchangedLemmas.{synced_cells}
use Rattle.docs_core.proofs.laws.synced_documents_have_equal_cells.Goals as goal

pub returns : goal.returns
returns c = synced_cells
