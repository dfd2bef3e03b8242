use Rattle.docs_core.proofs.ReplayingOne.{one_replay}
use Rattle.docs_core.proofs.laws.one_replay.Goals as goal

pub returns : goal.returns
returns c = one_replay
