use Rattle.std.proofs.Common.{◌≡◌, ◌++◌}
use Rattle.std.specs.Prelude.{map}
use Rattle.list_core.specs.Fallbacks.{with_fallbacks}
use Rattle.list_core.proofs.priority_list.with_chains.Given as goal

abbrev pub invariant-loop-item : goal.invariant-loop-item
invariant-loop-item l =
    l.listed.items ++ map (with_fallbacks l.fallbacks) l.item-iterator.rest.items
    ≡ map (with_fallbacks l.fallbacks) l.fn.items.items
