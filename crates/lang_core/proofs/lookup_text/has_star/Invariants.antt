use Rattle.std.proofs.Common.{◌≡◌}
use Rattle.std.specs.List.{list_any}
use Rattle.lang_core.specs.Grammar.{is_star}
use Rattle.lang_core.specs.Subtags.{subtags_left}
use Rattle.lang_core.proofs.lookup_text.has_star.Given as goal

abbrev pub invariant-loop-subtag : goal.invariant-loop-subtag
invariant-loop-subtag l =
    list_any is_star (subtags_left l.fn.subtags) ≡ list_any is_star (subtags_left l.subtag-iterator)
