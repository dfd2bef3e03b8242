use Rattle.docs_core.proofs.SitesExchangedLemmas.{exchanged}
use Rattle.docs_core.proofs.laws.an_exchange_is_a_join.Goals as goal

pub returns : goal.returns
returns c = exchanged
