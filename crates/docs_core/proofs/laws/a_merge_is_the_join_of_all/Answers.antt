use Rattle.docs_core.proofs.MergingLaws.{merge_joins}
use Rattle.docs_core.proofs.laws.a_merge_is_the_join_of_all.Goals as goal

pub returns : goal.returns
returns c = merge_joins
