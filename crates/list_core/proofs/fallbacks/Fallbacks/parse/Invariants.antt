use Rattle.std.proofs.Common.{◌≤◌, length}
use Rattle.std.specs.Prelude.{option_map}
use Rattle.list_core.proofs.FallbacksLemmas.{IsReadTo, rest_size}
use Rattle.list_core.proofs.fallbacks.Fallbacks.parse.Given as goal

abbrev pub invariant-loop-rest : goal.invariant-loop-rest
invariant-loop-rest l =
    (length l.text ≤ 65535) × IsReadTo l.text l.elements.items (option_map (λ r. r.now) l.rest)

abbrev pub decreases-loop-rest : goal.decreases-loop-rest
decreases-loop-rest l = rest_size (option_map (λ r. r.now) l.rest)
