use Rattle.list_core.proofs.DecidingNamedLemmas.{named_refuse}
use Rattle.list_core.proofs.laws.named_refuse_alone.Goals as goal

pub returns : goal.returns
returns c = named_refuse
