use Rattle.std.proofs.Common.{◌≡◌, length, rules}
use Rattle.list_core.proofs.FallbacksItemsLemmas.{no_table}
use Rattle.list_core.proofs.priority_list.with_chains.Goals as goal

pub returns-then-is_empty : goal.returns-then-is_empty
returns-then-is_empty c =
    let none : length c.args.fallbacks.now ≡ 0 = search rules in
    no_table c.args.fallbacks.now c.args.items.items none
