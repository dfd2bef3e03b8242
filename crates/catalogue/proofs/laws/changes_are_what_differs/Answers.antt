use Rattle.catalogue.proofs.ChangesLemmas.{alike_at, differ_at, empty_if_equal, exchanged_changes}
use Rattle.catalogue.proofs.ChangesLemmas.{made_is_after, one_changes}
use Rattle.catalogue.proofs.laws.changes_are_what_differs.Goals as goal

pub returns-clause-one : goal.returns-clause-one
returns-clause-one c = one_changes

pub returns-clause-differ : goal.returns-clause-differ
returns-clause-differ c = differ_at

pub returns-clause-alike : goal.returns-clause-alike
returns-clause-alike c = alike_at

pub returns-clause-empty : goal.returns-clause-empty
returns-clause-empty c = empty_if_equal

pub returns-clause-made : goal.returns-clause-made
returns-clause-made c = made_is_after

pub returns-clause-turned : goal.returns-clause-turned
returns-clause-turned c = exchanged_changes
