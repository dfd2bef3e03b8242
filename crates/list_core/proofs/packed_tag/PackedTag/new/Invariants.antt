use Rattle.std.proofs.Common.{◌≡◌, ◌++◌}
use Rattle.lang_core.specs.Text.{pieces}
use Rattle.lang_core.specs.Grammar.{AreAll}
use Rattle.lang_core.specs.Subtags.{subtags_left}
use Rattle.list_core.specs.inner.PackedTag.{is_packable, all_packed}
use Rattle.list_core.proofs.packed_tag.PackedTag.new.Given as goal

abbrev pub invariant-loop-subtag : goal.invariant-loop-subtag
invariant-loop-subtag l =
    AreAll is_packable (subtags_left l.subtag-iterator)
    × (l.subtags.items ++ all_packed (subtags_left l.subtag-iterator)
    ≡ all_packed (pieces l.tag))
