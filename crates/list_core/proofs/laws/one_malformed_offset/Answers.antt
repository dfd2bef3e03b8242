use Rattle.list_core.proofs.FieldLemmas.{one_malformed}
use Rattle.list_core.proofs.laws.one_malformed_offset.Goals as goal

pub returns : goal.returns
returns c = one_malformed
