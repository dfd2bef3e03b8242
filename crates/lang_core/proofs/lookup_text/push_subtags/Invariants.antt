use Rattle.std.proofs.Common.{◌≡◌, ◌++◌}
use Rattle.std.specs.String.{string_bytes}
use Rattle.lang_core.specs.inner.LookupText.{hyphened}
use Rattle.lang_core.specs.Matching.{without_stars}
use Rattle.lang_core.specs.Subtags.{subtags_left}
use Rattle.lang_core.proofs.lookup_text.push_subtags.Given as goal

abbrev pub invariant-loop-subtag : goal.invariant-loop-subtag
invariant-loop-subtag l =
    string_bytes l.initial.text ++ hyphened (without_stars (subtags_left l.fn.subtags))
    ≡ string_bytes l.text ++ hyphened (without_stars (subtags_left l.subtag-iterator))
