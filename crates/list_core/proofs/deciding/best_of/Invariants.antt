use Rattle.lang_core.specs.Text.{pieces}
use Rattle.list_core.specs.Deciding.{IsBest, Matches}
use Rattle.list_core.proofs.DecidingMostSpecificLemmas.{Before}
use Rattle.list_core.proofs.deciding.best_of.Given as goal

abbrev pub invariant-loop-place : goal.invariant-loop-place
invariant-loop-place l =
    IsBest (Before (λ _ i. Matches l.scheme (pieces i.range) (pieces l.tag)) l.place) l.items l.best
