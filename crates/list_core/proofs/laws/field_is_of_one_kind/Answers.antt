use Rattle.list_core.proofs.FieldLemmas.{one_kind}
use Rattle.list_core.proofs.laws.field_is_of_one_kind.Goals as goal

pub returns : goal.returns
returns c = one_kind
