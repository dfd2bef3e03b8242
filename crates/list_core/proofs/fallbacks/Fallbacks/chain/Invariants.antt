use Rattle.std.proofs.Common.{◌≡◌}
use Rattle.std.specs.Prelude.{MatchOption, map, option_map, string_bytes}
use Rattle.list_core.specs.Fallbacks.{chain_of}
use Rattle.list_core.specs.inner.Fallbacks.{LeadsOn}
use Rattle.list_core.proofs.fallbacks.Fallbacks.chain.Given as goal

abbrev pub invariant-loop-next : goal.invariant-loop-next
invariant-loop-next l =
    MatchOption (option_map (λ right. right.now) l.next)
    (chain_of l.self l.text ≡ map string_bytes l.chain.items)
    (LeadsOn l.self (chain_of l.self l.text) l.unused (map string_bytes l.chain.items))

abbrev pub decreases-loop-next : goal.decreases-loop-next
decreases-loop-next l = l.unused
