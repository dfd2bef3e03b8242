use Rattle.list_core.proofs.FieldLemmas.{one_kind, list_read}
use Rattle.list_core.proofs.WeightBounds.{small_weights}
use Rattle.list_core.proofs.priority_list.PriorityList.parse.Goals as goal

pub list_of-requires-clause-one_kind : goal.list_of-requires-clause-one_kind
list_of-requires-clause-one_kind c =
    one_kind c.args.scheme c.args.malformed c.args.field.now c.in_ok-items.items.items
    c.in_ok-items.ensures.1

pub list_of-requires-clause-small : goal.list_of-requires-clause-small
list_of-requires-clause-small c =
    small_weights c.args.scheme c.args.malformed c.args.field.now c.in_ok-items.items.items
    c.in_ok-items.ensures.1

pub returns : goal.returns
returns c =
    list_read c.args.scheme c.args.malformed c.args.field.now c.in_ok-items.items.items
    c.list_of.result c.in_ok-items.ensures.0 c.in_ok-items.ensures.1 c.list_of.ensures
