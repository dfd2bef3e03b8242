use Rattle.cata_core.proofs.RunsDeliveriesLemmas.{delivery_merges, delivery_leaves_others}
use Rattle.cata_core.proofs.laws.a_delivery_acts_as_a_merge.Goals as goal

pub returns-clause-taker : goal.returns-clause-taker
returns-clause-taker c = delivery_merges

pub returns-clause-others : goal.returns-clause-others
returns-clause-others c = delivery_leaves_others
