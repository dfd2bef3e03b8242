use Rattle.docs_core.proofs.SitesCheckedLemmas.{noticed}
use Rattle.docs_core.proofs.laws.a_checked_exchange_is_refused_as_a_sync_is.Goals as goal

pub returns : goal.returns
returns c = noticed
