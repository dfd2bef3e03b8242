use Rattle.cata_core.proofs.SyncingRepeatsLemmas.{sync_repeats}
use Rattle.cata_core.proofs.laws.a_sync_can_be_repeated.Goals as goal

pub returns : goal.returns
returns c = sync_repeats
