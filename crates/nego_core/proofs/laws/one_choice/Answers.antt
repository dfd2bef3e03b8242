use Rattle.nego_core.proofs.ChoosingOneLemmas.{one_choice, one_choice_by, one_widened_choice}
use Rattle.nego_core.proofs.laws.one_choice.Goals as goal

pub returns-clause-lookup : goal.returns-clause-lookup
returns-clause-lookup c = one_choice

pub returns-clause-widened : goal.returns-clause-widened
returns-clause-widened c = one_widened_choice

pub returns-clause-shortlist : goal.returns-clause-shortlist
returns-clause-shortlist c = one_choice_by
