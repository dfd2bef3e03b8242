use Rattle.docs_core.proofs.MergingLaws.{part_merged}
use Rattle.docs_core.proofs.laws.a_merge_of_parts_is_the_part_of_the_merge.Goals as goal

pub returns : goal.returns
returns c = part_merged
