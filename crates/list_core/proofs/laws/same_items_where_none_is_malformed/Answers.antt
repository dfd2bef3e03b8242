use Rattle.list_core.proofs.FieldLenientLemmas.{lenient_too}
use Rattle.list_core.proofs.laws.same_items_where_none_is_malformed.Goals as goal

pub returns : goal.returns
returns c = lenient_too
