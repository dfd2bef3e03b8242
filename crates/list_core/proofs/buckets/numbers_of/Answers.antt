use Rattle.std.proofs.Common.{List, ℕ, subst}
use Rattle.lang_core.specs.Text.{pieces}
use Rattle.list_core.specs.Buckets.{MayBeIn}
use Rattle.list_core.proofs.Basics.{stands_at}
use Rattle.list_core.proofs.BucketsLemmas.{push_number}
use Rattle.list_core.proofs.buckets.numbers_of.Goals as goal

pub loop-item-preserved : goal.loop-item-preserved
loop-item-preserved c =
    rw c.in_ok-push.ensures.items
    (push_number c.args.items.now c.loop-item.item-index c.item-item.result
    c.loop-item.numbers.items c.shortest_for-number.result c.loop-item.invariant
    (stands_at c.args.items.now c.loop-item.item-index c.item-item.result c.loop-item-test.true
    c.item-item.is)
    (subst (λ (r : List ℕ). MayBeIn (pieces r) c.shortest_for-number.result) c.range.ensures
    c.shortest_for-number.ensures.may)
    c.shortest_for-number.ensures.within)
