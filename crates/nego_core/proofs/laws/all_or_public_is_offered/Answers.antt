use Rattle.nego_core.proofs.OfferLemmas.{all_offered, public_is_offered}
use Rattle.nego_core.proofs.laws.all_or_public_is_offered.Goals as goal

pub returns-clause-all : goal.returns-clause-all
returns-clause-all c = all_offered

pub returns-clause-public : goal.returns-clause-public
returns-clause-public c = public_is_offered
