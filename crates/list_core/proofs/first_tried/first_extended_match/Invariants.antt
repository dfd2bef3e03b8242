use Rattle.lang_core.specs.Text.{pieces}
use Rattle.lang_core.specs.Matching.{Extended}
use Rattle.list_core.proofs.FirstTriedLemmas.{NoneTried}
use Rattle.list_core.proofs.first_tried.first_extended_match.Given as goal

abbrev pub invariant-loop-at : goal.invariant-loop-at
invariant-loop-at l =
    NoneTried (λ i. Extended (pieces i.range) (pieces l.tag)) l.items l.keys l.at
