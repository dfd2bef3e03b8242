use Rattle.std.proofs.Common.{◌≤◌, List, rules, subst, sym}
use Rattle.std.specs.Prelude.{All}
use Rattle.list_core.specs.Field.{HasElement, IsOfOneKind}
use Rattle.list_core.specs.Item.{Item}
use Rattle.list_core.proofs.FieldLemmas.{has_element, one_kind}
use Rattle.list_core.proofs.WeightBounds.{small_weights}
use Rattle.list_core.proofs.FallbacksItemsLemmas.{list_read_by, one_kind_by, small_by}
use Rattle.list_core.proofs.priority_list.PriorityList.parse_with.Goals as goal

pub returns-in_err-items-2 : goal.returns-in_err-items-2
returns-in_err-items-2 c =
    let element : HasElement c.args.scheme c.args.malformed c.args.field.now =
    has_element c.args.scheme c.args.malformed c.args.field.now c.in_ok-items.items.items
    c.in_ok-items.ensures.1 c.in_err-items-2.ensures in
    search rules

pub list_of-requires-clause-one_kind : goal.list_of-requires-clause-one_kind
list_of-requires-clause-one_kind c =
    subst IsOfOneKind (sym c.in_ok-items-2.ensures)
    (one_kind_by c.args.fallbacks.now c.in_ok-items.items.items
    (one_kind c.args.scheme c.args.malformed c.args.field.now c.in_ok-items.items.items
    c.in_ok-items.ensures.1))

pub list_of-requires-clause-small : goal.list_of-requires-clause-small
list_of-requires-clause-small c =
    subst (λ (items : List Item). All (λ i. i.weight ≤ 1000) items) (sym c.in_ok-items-2.ensures)
    (small_by c.args.fallbacks.now c.in_ok-items.items.items
    (small_weights c.args.scheme c.args.malformed c.args.field.now c.in_ok-items.items.items
    c.in_ok-items.ensures.1))

pub returns : goal.returns
returns c =
    list_read_by c.args.fallbacks.now c.args.scheme c.args.malformed c.args.field.now
    c.in_ok-items.items.items c.in_ok-items-2.items.items c.list_of.result c.in_ok-items.ensures.0
    c.in_ok-items.ensures.1 c.in_ok-items-2.ensures c.list_of.ensures
