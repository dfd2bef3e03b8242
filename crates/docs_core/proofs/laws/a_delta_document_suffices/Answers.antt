use Rattle.docs_core.proofs.SitesExchangedLemmas.{taken_suffices}
use Rattle.docs_core.proofs.laws.a_delta_document_suffices.Goals as goal

pub returns : goal.returns
returns c = taken_suffices
