use Rattle.docs_core.proofs.OutdatedLemmas.{outdated_where}
use Rattle.docs_core.proofs.laws.a_message_is_outdated_where_its_source_is_later.Goals as goal

pub returns : goal.returns
returns c = outdated_where
