use Rattle.lang_core.specs.Text.{pieces}
use Rattle.list_core.specs.Deciding.{Matches}
use Rattle.list_core.proofs.FirstTriedLemmas.{NoneTried}
use Rattle.list_core.proofs.first_tried.first_match.Given as goal

abbrev pub invariant-loop-at : goal.invariant-loop-at
invariant-loop-at l =
    NoneTried (λ i. Matches l.scheme (pieces i.range) (pieces l.tag)) l.items l.keys l.at
