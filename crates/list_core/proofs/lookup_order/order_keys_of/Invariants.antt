use Rattle.std.proofs.Common.{◌≡◌, ◌++◌, drop}
use Rattle.list_core.specs.LookupOrder.{order_keys_from}
use Rattle.list_core.proofs.lookup_order.order_keys_of.Given as goal

abbrev pub invariant-loop-place : goal.invariant-loop-place
invariant-loop-place l =
    l.keys.items ++ order_keys_from (drop l.place l.items) l.place ≡ order_keys_from l.items 0
