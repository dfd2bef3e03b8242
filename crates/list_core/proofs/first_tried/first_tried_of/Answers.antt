use Rattle.std.proofs.Common.{get_or}
use Rattle.list_core.specs.declared.lookup_order.OrderKey.{OrderKey}
use Rattle.list_core.proofs.Basics.{same_default}
use Rattle.list_core.proofs.FirstTriedLemmas.{lead_again, lead_all, lead_found, lead_passed}
use Rattle.list_core.proofs.first_tried.first_tried_of.Goals as goal
use Rattle.list_core.proofs.first_tried.first_tried_of.Goals.{in-Some+then-index-keys}
use Rattle.list_core.proofs.first_tried.first_tried_of.Goals.{in-Some+else-index-keys, in-None}

abbrev zero : OrderKey
zero = record { missing_weight = 0; place = 0 }

-- The next key's range is met for the first time, or was met before, or the key has no item.
pub loop-at-preserved : goal.loop-at-preserved
loop-at-preserved c =
    let items = c.args.items.now in
    let keys = c.args.keys.now in
    let at = c.loop-at.at in
    let low = c.loop-at-test.true in
    let key = get_or keys at zero in
    let is = same_default keys at zero key low in
    elim c.match-first_alike.branch [
      | in-Some+then-index-keys w ↦
          rw w.firsts-is
          (lead_found items keys at c.loop-at.firsts.items key w.in-Some.place w.index.result.now
          low is w.in-Some.ensures w.index.ensures w.if-index-keys.true c.loop-at.invariant)
      | in-Some+else-index-keys w ↦
          rw w.firsts-is
          (lead_again items keys at c.loop-at.firsts.items key w.in-Some.place w.index.result.now
          low is w.in-Some.ensures w.index.ensures w.if-index-keys.false c.loop-at.invariant)
      | in-None w ↦
          rw w.firsts-is
          (lead_passed items keys at c.loop-at.firsts.items key low is w.in-None.ensures
          c.loop-at.invariant)
    ]

pub returns : goal.returns
returns c =
    lead_all c.args.items.now c.args.keys.now c.loop-at.at c.loop-at.firsts.items
    c.loop-at-test.false c.loop-at.invariant
