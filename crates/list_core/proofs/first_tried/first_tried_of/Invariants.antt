use Rattle.list_core.proofs.FirstTriedLemmas.{LeadTo}
use Rattle.list_core.proofs.first_tried.first_tried_of.Given as goal

abbrev pub invariant-loop-at : goal.invariant-loop-at
invariant-loop-at l = LeadTo l.items l.keys l.at l.firsts.items
