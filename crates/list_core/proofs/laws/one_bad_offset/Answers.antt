use Rattle.list_core.proofs.FallbacksLawsLemmas.{one_bad_offset}
use Rattle.list_core.proofs.laws.one_bad_offset.Goals as goal

pub returns : goal.returns
returns c = one_bad_offset
