use Rattle.catalogue.proofs.EntriesOfferedLemmas.{all_cells, filtered_is_offered, found_is_offered}
use Rattle.catalogue.proofs.EntriesOfferedLemmas.{same_offered}
use Rattle.catalogue.proofs.laws.what_is_offered_answers.Goals as goal

pub returns-clause-all : goal.returns-clause-all
returns-clause-all c = all_cells

pub returns-clause-matched : goal.returns-clause-matched
returns-clause-matched c = λ offer cells id widening items default lang label answer.
    found_is_offered offer cells id lang label answer.1

pub returns-clause-default : goal.returns-clause-default
returns-clause-default c = λ offer cells id widening items default lang label answer.
    found_is_offered offer cells id lang label answer.3

pub returns-clause-filter : goal.returns-clause-filter
returns-clause-filter c = filtered_is_offered

pub returns-clause-rest : goal.returns-clause-rest
returns-clause-rest c = same_offered
