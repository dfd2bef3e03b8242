use Rattle.std.proofs.Common.{ℕ, List, ◌≡◌}
use Rattle.std.specs.Prelude.{map, string_bytes}
use Rattle.lang_core.specs.Text.{pieces}
use Rattle.lang_core.specs.Truncations.{truncations_left}
use Rattle.lang_core.specs.TruncationsCandidates.{candidates}
use Rattle.list_core.specs.Fallbacks.{walk}
use Rattle.list_core.specs.inner.Fallbacks.{AreUnused, chain_from}
use Rattle.list_core.specs.declared.fallbacks.Fallback.{Fallback}
use Rattle.list_core.proofs.fallbacks.Fallbacks.extend.Given as goal

abbrev pub invariant-loop-tried : goal.invariant-loop-tried
invariant-loop-tried l =
    (n : ℕ) (unused : List Fallback)
    → AreUnused l.self (map string_bytes l.initial.chain.items) n unused
    → AreUnused l.self (map string_bytes l.chain.items) n unused
    × (chain_from (map string_bytes l.initial.chain.items)
    (walk n unused (candidates (pieces l.fn.text)))
    ≡ chain_from (map string_bytes l.chain.items)
    (walk n unused (truncations_left l.tried-iterator)))
