use Rattle.docs_core.proofs.MergingLaws.{any_copies, any_order}
use Rattle.docs_core.proofs.laws.the_order_of_a_merge_is_free.Goals as goal

pub returns-clause-others : goal.returns-clause-others
returns-clause-others c = any_order

pub returns-clause-first : goal.returns-clause-first
returns-clause-first c = any_copies
