use Rattle.list_core.specs.FirstTried.{IsFirstTried}
use Rattle.list_core.proofs.FirstTriedLemmas.{IsAnyOrFront}
use Rattle.list_core.proofs.first_tried.first_basic_match.Given as goal

abbrev pub invariant-loop-at : goal.invariant-loop-at
invariant-loop-at l = IsFirstTried (IsAnyOrFront l.text l.at) l.items l.keys l.found
