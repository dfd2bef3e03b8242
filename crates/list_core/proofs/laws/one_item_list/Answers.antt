use Rattle.list_core.proofs.FieldUnique.{one_items}
use Rattle.list_core.proofs.laws.one_item_list.Goals as goal

pub returns : goal.returns
returns c = one_items
