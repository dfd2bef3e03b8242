use Rattle.std.proofs.Common.{◌≡◌, drop}
use Rattle.lang_core.specs.Grammar.{AreAll}
use Rattle.lang_core.specs.Subtags.{subtags_left}
use Rattle.list_core.specs.inner.PackedTag.{is_packable, all_packed, greedy_packed}
use Rattle.list_core.proofs.packed_tag.pairs_packed.Given as goal

abbrev pub invariant-loop-subtag : goal.invariant-loop-subtag
invariant-loop-subtag l =
    AreAll is_packable (subtags_left l.subtag-iterator)
    × (greedy_packed (all_packed (subtags_left l.fn.wanted)) (drop 1 l.given)
    ≡ greedy_packed (all_packed (subtags_left l.subtag-iterator)) (drop l.from l.given))
