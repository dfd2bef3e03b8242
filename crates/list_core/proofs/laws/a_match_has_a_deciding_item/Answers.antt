use Rattle.list_core.proofs.DecidingMatchedLemmas.{a_match_decides}
use Rattle.list_core.proofs.laws.a_match_has_a_deciding_item.Goals as goal

pub returns : goal.returns
returns c = a_match_decides
