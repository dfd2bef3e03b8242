use Rattle.list_core.proofs.FieldLemmas.{malformed_is_no_field}
use Rattle.list_core.proofs.laws.malformed_is_no_field.Goals as goal

pub returns : goal.returns
returns c = malformed_is_no_field
