use Rattle.summary_docs.proofs.ShownDeltaLemmas.{checked_agrees, checked_joins, checked_refused}
use Rattle.summary_docs.proofs.laws.a_checked_delta_acts_as_a_merge.Goals as goal

pub returns-clause-agree : goal.returns-clause-agree
returns-clause-agree c = checked_agrees

pub returns-clause-join : goal.returns-clause-join
returns-clause-join c = checked_joins

pub returns-clause-refusal : goal.returns-clause-refusal
returns-clause-refusal c = checked_refused
