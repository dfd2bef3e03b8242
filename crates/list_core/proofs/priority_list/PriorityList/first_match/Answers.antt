use Rattle.std.proofs.Common.{◌<◌, List, arith, length, subst}
use Rattle.std.proofs.lemmas.Bool.Decides.{nat_tests}
use Rattle.lang_core.specs.Text.{pieces}
use Rattle.list_core.specs.Deciding.{Matches}
use Rattle.list_core.specs.FirstTried.{AreFirstTried}
use Rattle.list_core.specs.Item.{Item}
use Rattle.list_core.proofs.FirstTriedLemmas.{tried_of_list}
use Rattle.list_core.proofs.priority_list.PriorityList.first_match.Goals as goal

pub first_basic_match-requires : goal.first_basic_match-requires
first_basic_match-requires c =
    let firsts = c.self.inside.firsts.items in
    let some : 0 < length firsts = grind (arith, nat_tests) in
    rw (
      c.indexed_items.ensures,
      c.deref-in-Basic-false.ensures.value,
      c.deref-in-Basic-false-2.ensures.value,
    )
    (subst (λ (xs : List Item). AreFirstTried xs c.self.inside.order.items firsts) c.self.view_is
    (c.self.invariant.2 some))

pub returns-in-Basic-false : goal.returns-in-Basic-false
returns-in-Basic-false c =
    tried_of_list (λ i. Matches c.args.scheme (pieces i.range) (pieces c.args.tag.now))
    c.args.self.now c.self.inside.items.items c.self.inside.order.items c.first_basic_match.result
    c.self.view_is c.self.invariant.0
    (rw c.in-Basic-false.is-0 (rw (
      c.indexed_items.ensures,
      c.deref-in-Basic-false.ensures.value,
      c.as_bytes.ensures.value,
      c.as_str.ensures.text,
    ) at c.first_basic_match.ensures))

pub returns-in_default : goal.returns-in_default
returns-in_default c =
    tried_of_list (λ i. Matches c.args.scheme (pieces i.range) (pieces c.args.tag.now))
    c.args.self.now c.self.inside.items.items c.self.inside.order.items c.first_match.result
    c.self.view_is c.self.invariant.0
    (rw (c.deref.ensures.value, c.deref-in_default.ensures.value, c.self.view_is) at
    c.first_match.ensures)

pub returns-in-Extended-default : goal.returns-in-Extended-default
returns-in-Extended-default c =
    tried_of_list (λ i. Matches c.args.scheme (pieces i.range) (pieces c.args.tag.now))
    c.args.self.now c.self.inside.items.items c.self.inside.order.items
    c.first_extended_match.result c.self.view_is c.self.invariant.0
    (rw c.in-Extended-default.is-0 (rw (
      c.deref-in-Extended-default.ensures.value,
      c.deref-in-Extended-default-2.ensures.value,
      c.self.view_is,
    ) at c.first_extended_match.ensures))
