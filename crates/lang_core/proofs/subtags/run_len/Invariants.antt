use Rattle.lang_core.specs.Text.{pieces}
use Rattle.lang_core.specs.inner.Kind.{is_of}
use Rattle.lang_core.specs.Subtags.{subtags_left}
use Rattle.lang_core.proofs.SubtagsRunsLemmas.{IsRunSoFar}
use Rattle.lang_core.proofs.subtags.run_len.Given as goal

abbrev pub invariant-loop-subtag : goal.invariant-loop-subtag
invariant-loop-subtag l =
    IsRunSoFar (is_of l.fn.kind) (pieces l.fn.text) (subtags_left l.subtag-iterator) l.len
